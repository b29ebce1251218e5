-- Written by tests/written/wide.py from model, in f64.
-- The domain and the numbers of refusal, in their order. A number of 0 says that nothing is refused; -0 counts as zero everywhere.
use Rattle.std.specs.Prelude.{ℕ, zero, suc, ◌%◌, Bool, true, false, not, ◌&&◌, ◌||◌, cond, List, [], ◌∷◌, eqb, ltb, length, Float, Result, Ok, Err, ⊤}
use Rattle.std.specs.Float.{Format}
use Rattle.std.specs.Float.Ieee.{add, mul, lt, le}
use Rattle.model64.specs.declared.Vector.{Vector}
use Rattle.model64.specs.declared.Rotation.{Rotation}
use Rattle.model64.specs.declared.Pose.{Pose}
use Rattle.model64.specs.declared.Sweep.{Sweep}
use Rattle.model.specs.declared.SimplexCache.{SimplexCache}
use Rattle.model.specs.declared.Refusal.{Refusal}
use Rattle.model.specs.Ground.{constant, abs}
use Rattle.model64.specs.Ground.{one}
use Rattle.model64.specs.Ground as Ground
pub use Rattle.model.specs.Domain.{bad_outline}
pub use Rattle.model.specs.Domain.{of_other_pair}
pub use Rattle.model.specs.Domain.{cache_refusal}
pub use Rattle.model.specs.Domain.{or_else}
pub use Rattle.model.specs.Domain.{numbered}
unfoldable pub use Rattle.model.specs.Domain.{checked}
pub use Rattle.model.specs.Domain.{refusal}

module _ (f : Format) where
  -- 1,048,576
  abbrev pub limit : Float
  limit = constant f 0x4980_0000 0x4130_0000_0000_0000

  -- not finite, or above the limit in size
  abbrev pub bad_part : Float → Bool
  bad_part x = not (le (abs x) limit)

  abbrev pub bad_vector : Vector → Bool
  bad_vector v = bad_part v.x || bad_part v.y

  unfoldable pub bad_parts : List Float → Bool
  bad_parts [] = false
  bad_parts (x ∷ s) = bad_part x || bad_parts s

  abbrev pub bad_radius : Float → Bool
  bad_radius r = not (le (Ground.zero f) r && le r limit)

  -- 0.984375 and 1.015625
  abbrev pub least_square : Float
  least_square = constant f 0x3f7c_0000 0x3fef_8000_0000_0000

  abbrev pub most_square : Float
  most_square = constant f 0x3f82_0000 0x3ff0_4000_0000_0000

  abbrev pub squared : Rotation → Float
  squared q = add f (mul f q.c q.c) (mul f q.s q.s)

  -- a part above 1 in size, or the square of the length out of those bounds; a NaN passes no test
  abbrev pub bad_rotation : Rotation → Bool
  bad_rotation q = not (le (abs q.c) (one f) && le (abs q.s) (one f) && le least_square (squared q) && le (squared q) most_square)

  abbrev pub bad_centres : Sweep → Bool
  bad_centres w = bad_vector w.local_center || bad_vector w.c1 || bad_vector w.c2

  -- ---- the numbers
  -- of one outline
  abbrev pub outline_refusal : List Float → ℕ
  outline_refusal s = cond (bad_outline s) 1 (cond (bad_parts s) 3 0)

  -- of the two outlines and their radii
  abbrev pub pair_refusal : List Float → List Float → Float → Float → ℕ
  pair_refusal a b ra rb =
      cond (bad_outline a) 1
      (cond (bad_outline b) 2
      (cond (bad_parts a || bad_parts b) 3
      (cond (bad_radius ra || bad_radius rb) 4 0)))

  abbrev pub pose_refusal : Pose → ℕ
  pose_refusal p = cond (bad_rotation p.rotation) 5 (cond (bad_vector p.translation) 6 0)

  -- of the two moves: all rotations, then all centres
  abbrev pub sweeps_refusal : Sweep → Sweep → ℕ
  sweeps_refusal a b =
      cond (bad_rotation a.q1 || bad_rotation a.q2 || bad_rotation b.q1 || bad_rotation b.q2) 5
      (cond (bad_centres a || bad_centres b) 6 0)

  abbrev pub fraction_refusal : Float → ℕ
  fraction_refusal t = cond (le (Ground.zero f) t && le t (one f)) 0 7

  abbrev pub slop_refusal : Float → ℕ
  slop_refusal x = cond (lt (Ground.zero f) x && le x limit) 0 8

-- the answer, with the pose that passed
unfoldable pub checked_pose : Result ⊤ Refusal → Pose → Result Pose Refusal
checked_pose (Ok tt) p = Ok p
checked_pose (Err r) p = Err r

-- a pose's number again
abbrev pub refusal_of_pose : Result Pose Refusal → ℕ
refusal_of_pose (Ok p) = 0
refusal_of_pose (Err r) = r.number
