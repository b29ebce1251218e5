-- What a look at a planned move answers: a refusal, told by a number, or one of the three answers. Places are in 2^24-ths of the way.
use Rattle.std.specs.Prelude.{ℕ, ◌≤◌, ◌<◌, ◌≡◌, ◌&&◌, cond, List, length, Float}
use Rattle.std.specs.Float.{binary32}
use Rattle.std.specs.Float.Ieee.{le}
use Rattle.model.specs.declared.Vector.{Vector}
use Rattle.model.specs.declared.Sweep.{Sweep}
use Rattle.model.specs.Ground as Ground
use Rattle.model.specs.Support.{point}
use Rattle.model.specs.Domain.{pair_refusal, sweeps_refusal, fraction_refusal, slop_refusal, or_else}
use Rattle.model.specs.Work.{move_at}
use Rattle.planned.specs.Planned.{Clear, Touch, Open}
use Rattle.clearance_verdict.specs.declared.Answer.{Answer}
use Rattle.clearance_verdict.specs.declared.Answer.TheVariants as answer
use Rattle.clearance_call.specs.declared.Cleared.{Cleared}
use Rattle.clearance_call.specs.declared.Cleared.TheVariants as cleared

-- a look starts from 0 to the max fraction; -0 counts as 0, and a NaN passes no test
abbrev pub from_refusal : (from end : Float) → ℕ
from_refusal from end = cond (le (Ground.zero binary32) from && le from end) 0 7

-- the sweep's refusals in the sweep's order, with the start after the end; 0 where nothing is refused
abbrev pub refusal_by : (points_a points_b : List Float) (radii limits : Vector) (move_a move_b : Sweep) (from : Float) → ℕ
refusal_by points_a points_b radii limits move_a move_b from =
    or_else (pair_refusal binary32 points_a points_b radii.x radii.y)
    (or_else (sweeps_refusal binary32 move_a move_b)
    (or_else (fraction_refusal binary32 limits.x) (or_else (from_refusal from limits.x) (slop_refusal binary32 limits.y))))

-- of a job's numbers, as the sweep reads them
unfoldable pub refusal_of : (points_a points_b numbers : List Float) (from : Float) → ℕ
refusal_of points_a points_b numbers from =
    refusal_by points_a points_b (point numbers 0) (point numbers 1) (move_at numbers 2) (move_at numbers 7) from

-- a verdict's answer, handed on
abbrev pub cleared_by : Answer → Cleared
cleared_by (answer.Clear n) = cleared.Clear n
cleared_by (answer.Touch u t n) = cleared.Touch u t n
cleared_by (answer.Open u n) = cleared.Open u n

module _ (points_a points_b numbers : List Float) (from : Float) where
  -- nothing is refused, the promise holds, its last place is on the way, and no more than 4,096 pieces were tried
  pub record Answered (Promise : Type 0) (place pieces : ℕ) : Type 0 where
    pub passed : refusal_of points_a points_b numbers from ≡ 0
    pub holds : Promise
    pub whole : place ≤ 16777216
    pub few : pieces ≤ 4096

  -- OPEN, and not for want of trying: where the numbers are 24 and no more, a piece was tried
  pub record Unsettled (u pieces : ℕ) : Type 0 where
    pub says : Open points_a points_b numbers from u
    pub tried : length numbers ≡ 24 → 0 < pieces

-- a refused job is told by its number, and no other is refused
abbrev pub Told : (points_a points_b numbers : List Float) (from : Float) → Cleared → Type 0
Told points_a points_b numbers from (cleared.Refused k) = (refusal_of points_a points_b numbers from ≡ k) × (0 < k)
Told points_a points_b numbers from (cleared.Clear n) = Answered points_a points_b numbers from (Clear points_a points_b numbers from) 0 n
Told points_a points_b numbers from (cleared.Touch u t n) = Answered points_a points_b numbers from (Touch points_a points_b numbers from u t) t n
Told points_a points_b numbers from (cleared.Open u n) = Answered points_a points_b numbers from (Unsettled points_a points_b numbers from u n) u n
