-- What the verdict on a job on the grid says. Fractions are in 2^24-ths.
use Rattle.std.specs.Prelude.{List, Option, Some, None, ℕ, ◌+◌, ◌≤◌, ◌<◌}
use Rattle.board.specs.declared.GridJob.{GridJob}
use Rattle.board.specs.Board.{ClearBetween}
use Rattle.holding.specs.Grip.{TouchesAt}
use Rattle.clearance_verdict.specs.declared.Answer.{Answer}
use Rattle.clearance_verdict.specs.declared.Answer.TheVariants.{Clear, Touch, Open}

-- the look ends at `high`, the max fraction rounded up; a touch is told up to `low`, where it is rounded down
pub record Span (from low high : ℕ) : Type 0 where
  pub some : from < high
  pub whole : high ≤ 16777216
  pub over : low ≤ high
  pub under : high ≤ low + 1

module _ (job : GridJob) (axs ays bxs bys : List ℕ) where
  -- clear from the one to the other, where there is anything between
  abbrev pub ClearUpTo : (from u : ℕ) → Type 0
  ClearUpTo from u = from < u → ClearBetween job from u axs ays bxs bys

  pub record TouchFrom (u low t : ℕ) : Type 0 where
    pub order : u ≤ t
    pub before : t ≤ low
    pub touching : TouchesAt job t axs ays bxs bys

abbrev pub Found : (job : GridJob) (u low : ℕ) (axs ays bxs bys : List ℕ) → Option ℕ → Type 0
Found job u low axs ays bxs bys (Some t) = TouchFrom job axs ays bxs bys u low t
Found job u low axs ays bxs bys None = 0 ≤ 0

pub record ShortTouch (job : GridJob) (k low : ℕ) (axs ays bxs bys : List ℕ) : Type 0 where
  pub before : k ≤ low
  pub touching : TouchesAt job k axs ays bxs bys

abbrev pub told_by : Option ℕ → (u n : ℕ) → Answer
told_by (Some t) u n = Touch u t n
told_by None u n = Open u n

-- ---- the promise
pub record SettledTouch (job : GridJob) (from low : ℕ) (axs ays bxs bys : List ℕ) (u t n : ℕ) : Type 0 where
  pub after : from ≤ u
  pub clear : ClearUpTo job axs ays bxs bys from u
  pub touch : TouchFrom job axs ays bxs bys u low t
  pub few : n ≤ 4096

pub record SettledOpen (job : GridJob) (from low : ℕ) (axs ays bxs bys : List ℕ) (u n : ℕ) : Type 0 where
  pub after : from ≤ u
  pub before : u ≤ low
  pub clear : ClearUpTo job axs ays bxs bys from u
  pub some : 0 < n
  pub few : n ≤ 4096

abbrev pub Settled : (job : GridJob) (from low high : ℕ) (axs ays bxs bys : List ℕ) → Answer → Type 0
Settled job from low high axs ays bxs bys (Clear n) = ClearBetween job from high axs ays bxs bys × (n ≤ 4096)
Settled job from low high axs ays bxs bys (Touch u t n) = SettledTouch job from low axs ays bxs bys u t n
Settled job from low high axs ays bxs bys (Open u n) = SettledOpen job from low axs ays bxs bys u n
