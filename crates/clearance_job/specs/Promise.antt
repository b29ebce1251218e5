-- What the verdict on a job says, over the job's own numbers.
use Rattle.std.specs.Prelude.{List, Option, ℕ, ◌+◌, ◌≤◌, ◌<◌, Float, ◌⊎◌, IfSome}
use Rattle.std.specs.Float.{binary32}
use Rattle.std.specs.Float.Ieee.{to_bits}
use Rattle.integers.specs.Signed.{0Int, of_nat, ◌⊞◌, ◌⊠◌, ◌≼◌, ◌≺◌}
use Rattle.grid.specs.Grid.{unit}
use Rattle.planned.specs.Planned.{worth_of, Clear, Touch, Open}
use Rattle.model.specs.Support.{point}
use Rattle.board.specs.declared.GridJob.{GridJob}
use Rattle.clearance_verdict.specs.Verdict.{Span, Settled}
use Rattle.clearance_verdict.specs.declared.Stretch.{Stretch}
use Rattle.clearance_verdict.specs.declared.Answer.{Answer}
use Rattle.clearance_verdict.specs.declared.Answer.TheVariants as answer

-- r 2^24-ths are not less than a fraction up to 1
abbrev pub NotBefore : Float → ℕ → Type 0
NotBefore x r = to_bits binary32 x ≤ 1065353216 → worth_of x ⊠ of_nat 16777216 ≼ of_nat r ⊠ of_nat unit

-- a place after the first one and not before the end: the end rounded up, or the next after the first
pub record Ended (first : ℕ) (end : Float) (r : ℕ) : Type 0 where
  pub ends : NotBefore end r
  pub after : first < r
  pub near : to_bits binary32 end ≤ 1065353216 → (of_nat r ⊠ of_nat unit ≺ worth_of end ⊠ of_nat 16777216 ⊞ of_nat unit) ⊎ (r ≤ first + 1)

-- a start from 0 to the end, and an end up to 1
pub record Ranged (from end : Float) : Type 0 where
  pub least : 0Int ≼ worth_of from
  pub order : worth_of from ≼ worth_of end
  pub most : worth_of end ≼ of_nat unit

-- by their patterns
pub record Started (from end : Float) : Type 0 where
  pub starts : to_bits binary32 from ≤ 1065353216
  pub ends : to_bits binary32 end ≤ 1065353216
  pub order : worth_of from ≼ worth_of end

pub record Asked (from end : Float) (r : Stretch) : Type 0 where
  pub span : Span r.from r.low r.high
  pub starts : of_nat r.from ⊠ of_nat unit ≼ worth_of from ⊠ of_nat 16777216
  pub within : of_nat r.low ⊠ of_nat unit ≼ worth_of end ⊠ of_nat 16777216
  pub ends : worth_of end ⊠ of_nat 16777216 ≼ of_nat r.high ⊠ of_nat unit

-- what the loop says of the job on the board, over the part that was asked for
pub record Spoken (numbers : List Float) (from : Float) (job : GridJob) (axs ays bxs bys : List ℕ) (a : Answer) : Type 0 where
  pub part : Stretch
  pub asked : Asked from (point numbers 1).x part
  pub settled : Settled job part.from part.low part.high axs ays bxs bys a

abbrev pub Promised : (points_a points_b numbers : List Float) (from : Float) → Answer → Type 0
Promised points_a points_b numbers from (answer.Clear n) = Clear points_a points_b numbers from
Promised points_a points_b numbers from (answer.Touch u t n) = Touch points_a points_b numbers from u t
Promised points_a points_b numbers from (answer.Open u n) = Open points_a points_b numbers from u

-- the last place that an answer names is on the way, and no more than 4,096 pieces were tried; before OPEN at least one
abbrev pub Counted : Answer → Type 0
Counted (answer.Clear n) = n ≤ 4096
Counted (answer.Touch u t n) = (t ≤ 16777216) × (n ≤ 4096)
Counted (answer.Open u n) = (u ≤ 16777216) × (0 < n) × (n ≤ 4096)

-- an answer of which something is said, or none
abbrev pub Heard : (Said : Answer → Type 0) → Option Answer → Type 0
Heard Said v = IfSome v Said

abbrev pub Given : (points_a points_b numbers : List Float) (from : Float) → Option Answer → Type 0
Given points_a points_b numbers from = Heard (λ a. Promised points_a points_b numbers from a × Counted a)
