-- Rows are left to come, and the closure can be called at each. Assumes nothing.
use Rattle.replay_rows.proofs.each_row.Given as goal

abbrev pub invariant-loop-row : goal.invariant-loop-row
invariant-loop-row g l =
    (goal.iterator-loop-row g).can_next l.row-iterator × (goal.iterator-loop-row g).is_finite l.row-iterator × goal.F-IsAlwaysCallable g l.answer
