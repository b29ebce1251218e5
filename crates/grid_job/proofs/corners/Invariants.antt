-- `grid_job::corners` meets its contract. Assumes nothing.
use Rattle.grid_job.specs.Placing.{Cornered}
use Rattle.grid_job.proofs.corners.Given as goal

abbrev pub invariant-loop-i : goal.invariant-loop-i
invariant-loop-i l = Cornered l.points l.centre l.g l.xs l.ys l.i l.best
