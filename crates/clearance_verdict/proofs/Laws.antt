-- What the loop keeps, and how pieces join. Assumes nothing.
use mathlib.Core.List.{List}
use Prim.Native.Nat.{ℕ, ◌+◌, ◌-◌, ◌≤◌, ◌<◌}
use native.Mathlib.Nat.{lt_irrefl}
use native.Mathlib.Omega.{arith}
use Rattle.whole_way.proofs.Join.{one_more}
use Rattle.board.specs.declared.GridJob.{GridJob}
use Rattle.board.specs.Board.{ClearBetween}
use Rattle.holding.specs.Grip.{TouchesAt}
use Rattle.std.proofs.Common.{Option, Some, None}
use Rattle.clearance_verdict.specs.Verdict.{Span, ClearUpTo, Found, told_by, Settled}

module _ (job : GridJob) (axs ays bxs bys : List ℕ) where
  -- at u, with a piece of h to try next, after n pieces
  pub record Progress (from high u h n : ℕ) : Type 0 where
    pub after : from ≤ u
    pub below : u < high
    pub some : 0 < h
    pub small : h ≤ 33554432
    pub few : n ≤ 4096
    pub clear : ClearUpTo job axs ays bxs bys from u

  pub joined : (from u v : ℕ) → from ≤ u → ClearUpTo job axs ays bxs bys from u → ClearBetween job u v axs ays bxs bys → ClearBetween job from v axs ays
      bxs bys
  joined from u v h before piece unit finer a b keep stands = one_more 1073741824 keep a b 16777216 from u v h (λ l. before l unit finer a b keep stands)
      (piece unit finer a b keep stands)

  pub at-start : (from low high : ℕ) → Span from low high → Progress from high from (high - from) 0
  at-start from low high span = record {
    after = omega arith;
    below = span.some;
    some = omega (arith, span.some);
    small = omega (arith, span.whole);
    few = omega arith;
    clear = λ l. absurd (lt_irrefl from l);
  }

  -- where nothing more is tried
  pub told-settled : (from low high u n : ℕ) (look : Option ℕ) → from ≤ u → u ≤ low → 0 < n → n ≤ 4096 → ClearUpTo job axs ays bxs bys from u
      → Found job u low axs ays
      bxs bys look → Settled job from low high axs ays bxs bys (told_by look u n)
  told-settled from low high u n (Some t) after before some few clear found = record { after = after; clear = clear; touch = found; few = few }
  told-settled from low high u n None after before some few clear found = record { after = after; before = before; clear = clear; some = some; few = few }
