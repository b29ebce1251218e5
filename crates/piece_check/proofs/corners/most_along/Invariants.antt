-- `corners::most_along` meets its contract. The loop's invariant: no corner passed lies further along than the largest so far. Assumes nothing.
use Rattle.board.specs.Corners.{Most}
use Rattle.piece_check.proofs.corners.most_along.Given as goal

abbrev pub invariant-loop-i : goal.invariant-loop-i
invariant-loop-i l = Most l.w l.outline.xs.now l.outline.ys.now l.i l.best
