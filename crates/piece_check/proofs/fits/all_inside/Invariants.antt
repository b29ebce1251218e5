-- The corners so far are inside. Assumes nothing.
use Rattle.board.specs.Board.{Inside}
use Rattle.piece_check.proofs.fits.all_inside.Given as goal

abbrev pub invariant-loop-i : goal.invariant-loop-i
invariant-loop-i l = Inside l.reach l.outline.xs.now l.outline.ys.now l.i
