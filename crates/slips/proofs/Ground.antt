-- Ground operations: what each slip would change, at an input that shows it. By computing.
use mathlib.Core.Path.{◌≡◌, refl}
use Prim.Native.Nat.{ℕ}
use mathlib.Core.List.{List, [], ◌∷◌, map}
use lib.Ieee.{Float, nan, binary32, of_bits, to_bits, add, sub, mul, div, neg, lt, le, is_nan}
use Rattle.model.specs.declared.Vector.{Vector}
use Rattle.model.specs.declared.Pose.{Pose}
use Rattle.model.specs.Root.{root}
use Rattle.model.specs.Ground.{vector, rotation, pose, plus, minus, times, dot, perp_dot, length, distance, normalise_or_zero, lerp, rotate}
use Rattle.model.specs.Ground.{inverse_rotate, nlerp, on_point, inverse_times, negate, max, abs}

-- numbers by their bit patterns: 0 to 8, and some below 0
abbrev pub n0 : Float
n0 = of_bits binary32 0

abbrev pub n1 : Float
n1 = of_bits binary32 0x3f80_0000

abbrev pub n2 : Float
n2 = of_bits binary32 0x4000_0000

abbrev pub n3 : Float
n3 = of_bits binary32 0x4040_0000

abbrev pub n4 : Float
n4 = of_bits binary32 0x4080_0000

abbrev pub n5 : Float
n5 = of_bits binary32 0x40a0_0000

abbrev pub -n0 : Float
-n0 = of_bits binary32 0x8000_0000

abbrev pub -n1 : Float
-n1 = of_bits binary32 0xbf80_0000

abbrev pub bits : Float → ℕ
bits x = to_bits binary32 x

abbrev pub both : Vector → List ℕ
both v = bits v.x ∷ bits v.y ∷ []

-- ---- one number
pub abs-keeps-sign : map (λ (x : Float). bits (abs x)) (-n1 ∷ -n0 ∷ []) ≡ (0x3f80_0000 ∷ 0 ∷ [])
unfolding abs of_bits to_bits
abs-keeps-sign = refl

pub max-at-nan : max nan n3 ≡ n3
unfolding lt is_nan of_bits
max-at-nan = refl

pub from-bits-infinity-is-nan : bits (of_bits binary32 0x7f80_0000) ≡ 0x7f80_0000
unfolding of_bits to_bits
from-bits-infinity-is-nan = refl

pub to-bits-other-nan : bits nan ≡ 0x7fc0_0000
unfolding to_bits
to-bits-other-nan = refl

-- ---- vectors: (1, 2) and (3, 5)
abbrev a : Vector
a = vector n1 n2

abbrev b : Vector
b = vector n3 n5

pub add-mixes-parts : both (plus binary32 a b) ≡ (0x4080_0000 ∷ 0x40e0_0000 ∷ [])
unfolding add of_bits to_bits
add-mixes-parts = refl

pub sub-turned : both (minus binary32 a b) ≡ (0xc000_0000 ∷ 0xc040_0000 ∷ [])
unfolding add sub neg of_bits to_bits
sub-turned = refl

pub scale-one-part : both (times binary32 a n3) ≡ (0x4040_0000 ∷ 0x40c0_0000 ∷ [])
unfolding mul of_bits to_bits
scale-one-part = refl

pub neg-from-zero : both (negate (vector n0 n2)) ≡ (0x8000_0000 ∷ 0xc000_0000 ∷ [])
unfolding neg of_bits to_bits
neg-from-zero = refl

pub dot-crossed : bits (dot binary32 a b) ≡ 0x4150_0000
unfolding add mul of_bits to_bits
dot-crossed = refl

pub perp-dot-turned : bits (perp_dot binary32 a b) ≡ 0xbf80_0000
unfolding add sub neg mul of_bits to_bits
perp-dot-turned = refl

pub length-doubled : bits (length binary32 (vector n3 n4)) ≡ 0x40a0_0000
unfolding root add mul of_bits to_bits
length-doubled = refl

pub distance-to-itself : bits (distance binary32 (vector n3 n4) (vector n0 n0)) ≡ 0x40a0_0000
unfolding root add sub neg mul of_bits to_bits
distance-to-itself = refl

-- at 0 the first rotation
pub nlerp-operand-swapped : bits (nlerp binary32 (rotation n1 n0) (rotation n0 n1) n0).c ≡ 0x3f80_0000
unfolding root add sub mul div lt of_bits to_bits
nlerp-operand-swapped = refl

-- of a zero vector nothing is left, although 1 over its length is infinite
pub normalize-infinite : both (normalise_or_zero binary32 (vector n0 n0)) ≡ (0 ∷ 0 ∷ [])
unfolding root add mul div lt le of_bits to_bits
normalize-infinite = refl

pub lerp-turned : both (lerp binary32 a b (of_bits binary32 0x3e80_0000)) ≡ (0x3fc0_0000 ∷ 0x4030_0000 ∷ [])
unfolding add sub neg mul of_bits to_bits
lerp-turned = refl

-- ---- a quarter turn of (1, 2), forward and back
pub rotate-inverse : both (rotate binary32 (rotation n0 n1) a) ≡ (0xc000_0000 ∷ 0x3f80_0000 ∷ [])
unfolding add sub neg mul of_bits to_bits
rotate-inverse = refl

pub inv-rotate-forward : both (inverse_rotate binary32 (rotation n0 n1) a) ≡ (0x4000_0000 ∷ 0xbf80_0000 ∷ [])
unfolding add sub neg mul of_bits to_bits
inv-rotate-forward = refl

-- ---- poses: a quarter turn and a shift by (3, 5)
abbrev q : Pose
q = pose (rotation n0 n1) b

pub transform-moved-first : both (on_point binary32 q a) ≡ (0x3f80_0000 ∷ 0x40c0_0000 ∷ [])
unfolding add sub neg mul of_bits to_bits
transform-moved-first = refl

pub inv-mul-difference-turned : both (inverse_times binary32 q (pose (rotation n1 n0) a)).translation ≡ (0xc040_0000 ∷ 0x4000_0000 ∷ [])
unfolding add sub neg mul of_bits to_bits
inv-mul-difference-turned = refl
