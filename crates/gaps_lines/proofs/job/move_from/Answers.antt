-- `gaps_lines::job::move_from` meets its contract: the lent part of the array is the block's ten floats. Assumes nothing.
use mathlib.Core.Path.{sym}
use native.Mathlib.Omega.{arith}
use lib.Seq.{length-take-le}
use borrow.Author.Rules.{rules}
use Rattle.gaps_lines.proofs.job.move_from.Goals as goal

pub slice_bounds-move_of-end : goal.slice_bounds-move_of-end
slice_bounds-move_of-end c = sym (length-take-le 10 c.floats_at-numbers.result (search rules))

pub returns : goal.returns
returns c = rw (c.move_of.ensures, c.floats_at-numbers.ensures.1 c.requires (omega arith))
