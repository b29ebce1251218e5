-- `grid_job::corners` meets its contract. Assumes nothing.
use native.Mathlib.Omega.{arith}
use Rattle.grid_job.proofs.Laws.{corner-more}
use Rattle.grid_job.proofs.corners.Goals as goal

pub loop-i-preserved : goal.loop-i-preserved
loop-i-preserved c =
    let a = c.args in
    let l = c.loop-i in
    corner-more a.points.now a.centre a.g l.xs l.ys l.i l.best c.max-best.result c.offset-x.result c.offset-y.result c.span.result l.invariant
    (omega arith) (omega arith) c.offset-x.ensures c.offset-y.ensures c.span.ensures (omega arith) (omega arith)
    (omega (arith, c.span.ensures.small, l.invariant.small))
