-- A row's size stays what it is. Assumes nothing.
use Rattle.std.proofs.Common.{arith, of_calls}
use Rattle.replay_rows.proofs.each_row.Goals as goal

pub loop-row-preserved : goal.loop-row-preserved
loop-row-preserved g c = (omega (arith, c.loop-row.invariant.0, c.in-Some.ensures.steps.0), tt, search of_calls)
