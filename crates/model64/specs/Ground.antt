-- Written by tests/written/wide.py from model, in f64.
-- The ground operations, in the order of the rules. Each + - * / rounds once, in the written order, left to right; the format is the first argument of each.
use Rattle.std.specs.Prelude.{ℕ, Bool, true, false, ◌&&◌, ◌||◌, cond, Float}
use Rattle.std.specs.Float.{nan, inf, fin, Format, binary32, binary64}
use Rattle.std.specs.Float.Ieee.{of_bits, add, sub, mul, div, neg, lt, le, is_nan}
use Rattle.model64.specs.declared.Vector.{Vector}
use Rattle.model64.specs.declared.Rotation.{Rotation}
use Rattle.model64.specs.declared.Pose.{Pose}
use Rattle.model.specs.Root.{root}
pub use Rattle.model.specs.Ground.{constant}
pub use Rattle.model.specs.Ground.{max}
unfoldable pub use Rattle.model.specs.Ground.{abs}

-- ---- values of a record, by their parts in order
abbrev pub vector : Float → Float → Vector
vector x y = record { x = x; y = y }

abbrev pub rotation : Float → Float → Rotation
rotation c s = record { c = c; s = s }

abbrev pub pose : Rotation → Vector → Pose
pose q p = record { rotation = q; translation = p }

module _ (f : Format) where
  infixl 60 ◌⊕◌
  infixl 60 ◌⊖◌
  infixl 70 ◌⊗◌
  infixl 70 ◌⊘◌
  abbrev ◌⊕◌ : Float → Float → Float
  x ⊕ y = add f x y

  abbrev ◌⊖◌ : Float → Float → Float
  x ⊖ y = sub f x y

  abbrev ◌⊗◌ : Float → Float → Float
  x ⊗ y = mul f x y

  abbrev ◌⊘◌ : Float → Float → Float
  x ⊘ y = div f x y

  -- ---- constants
  abbrev pub zero : Float
  zero = of_bits f 0

  abbrev pub one : Float
  one = constant f 0x3f80_0000 0x3ff0_0000_0000_0000

  abbrev pub half : Float
  half = constant f 0x3f00_0000 0x3fe0_0000_0000_0000

  abbrev pub quarter : Float
  quarter = constant f 0x3e80_0000 0x3fd0_0000_0000_0000

  -- the largest finite value
  abbrev pub largest : Float
  largest = constant f 0x7f7f_ffff 0x7fef_ffff_ffff_ffff

  -- one step of the format at 1: 2 ^ -23, or 2 ^ -52
  abbrev pub epsilon : Float
  epsilon = constant f 0x3400_0000 0x3cb0_0000_0000_0000

  abbrev pub origin : Vector
  origin = vector zero zero

  -- ---- vectors, part by part
  abbrev pub plus : Vector → Vector → Vector
  plus a b = vector (a.x ⊕ b.x) (a.y ⊕ b.y)

  abbrev pub minus : Vector → Vector → Vector
  minus a b = vector (a.x ⊖ b.x) (a.y ⊖ b.y)

  abbrev pub times : Vector → Float → Vector
  times a k = vector (a.x ⊗ k) (a.y ⊗ k)

  -- ---- dot, perp-dot, length, distance
  abbrev pub dot : Vector → Vector → Float
  dot a b = a.x ⊗ b.x ⊕ a.y ⊗ b.y

  abbrev pub perp_dot : Vector → Vector → Float
  perp_dot a b = a.x ⊗ b.y ⊖ a.y ⊗ b.x

  abbrev pub length : Vector → Float
  length a = root f (dot a a)

  abbrev pub distance : Vector → Vector → Float
  distance p q = length (minus p q)

  -- ---- normalise-or-zero, with r for 1 / length: r is finite and above 0, or nothing is left of the vector
  abbrev pub normalise_by : Vector → Float → Vector
  normalise_by a r = cond (lt zero r && le r largest) (times a r) origin

  abbrev pub normalise_or_zero : Vector → Vector
  normalise_or_zero a = normalise_by a (one ⊘ length a)

  -- ---- from a to b at t
  abbrev pub lerp : Vector → Vector → Float → Vector
  lerp a b t = plus (times a (one ⊖ t)) (times b t)

  -- ---- rotations
  abbrev pub rotate : Rotation → Vector → Vector
  rotate q v = vector (q.c ⊗ v.x ⊖ q.s ⊗ v.y) (q.s ⊗ v.x ⊕ q.c ⊗ v.y)

  abbrev pub inverse_rotate : Rotation → Vector → Vector
  inverse_rotate q v = vector (q.c ⊗ v.x ⊕ q.s ⊗ v.y) (q.c ⊗ v.y ⊖ q.s ⊗ v.x)

  -- `nlerp`: the parts mixed by u = 1 - t and t, then divided by their length m, unless that is not above 0
  abbrev pub mixed : Rotation → Rotation → Float → Float → Rotation
  mixed a b u t = rotation (u ⊗ a.c ⊕ t ⊗ b.c) (u ⊗ a.s ⊕ t ⊗ b.s)

  abbrev pub reciprocal_or_zero : Float → Float
  reciprocal_or_zero m = cond (lt zero m) (one ⊘ m) zero

  abbrev pub scaled : Rotation → Float → Rotation
  scaled q k = rotation (q.c ⊗ k) (q.s ⊗ k)

  abbrev pub unit : Rotation → Rotation
  unit q = scaled q (reciprocal_or_zero (root f (q.s ⊗ q.s ⊕ q.c ⊗ q.c)))

  abbrev pub nlerp : Rotation → Rotation → Float → Rotation
  nlerp a b t = unit (mixed a b (one ⊖ t) t)

  -- ---- poses: on a point, and the inverse of a times b
  abbrev pub on_point : Pose → Vector → Vector
  on_point p v = plus (rotate p.rotation v) p.translation

  abbrev pub inverse_times_rotation : Rotation → Rotation → Rotation
  inverse_times_rotation a b = rotation (a.c ⊗ b.c ⊕ a.s ⊗ b.s) (a.c ⊗ b.s ⊖ a.s ⊗ b.c)

  abbrev pub inverse_times : Pose → Pose → Pose
  inverse_times a b =
      pose (inverse_times_rotation a.rotation b.rotation) (inverse_rotate a.rotation (minus b.translation a.translation))

-- ---- negation flips the sign, zeros' too; the greater; the absolute value clears the sign
abbrev pub negate : Vector → Vector
negate a = vector (neg a.x) (neg a.y)
