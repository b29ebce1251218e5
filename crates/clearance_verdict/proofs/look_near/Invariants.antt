-- What is stepped on by is doubled only while it is within the move. Assumes nothing.
use Rattle.std.proofs.Common.{◌≤◌}
use Rattle.clearance_verdict.proofs.look_near.Given as goal

abbrev pub invariant-loop-doubling : goal.invariant-loop-doubling
invariant-loop-doubling l = l.d ≤ 33554432
