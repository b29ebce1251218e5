-- `grid_job::largest` meets its contract. Assumes nothing.
use Prim.Native.Nat.{ℕ, ◌≤◌}
use Rattle.grid_job.specs.Placing.{UpTo}
use Rattle.grid_job.proofs.largest.Given as goal

abbrev pub invariant-loop-i : goal.invariant-loop-i
invariant-loop-i l = (l.least ≤ l.best) × UpTo l.list l.from l.i l.best × ((m : ℕ) → l.least ≤ m → UpTo l.list l.from l.to m → l.best ≤ m)
