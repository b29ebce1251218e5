-- `gaps_lines::job::put_block` meets its contract: the lent parts of the arrays are the block's points. Assumes nothing.
use mathlib.Core.Path.{sym}
use native.Mathlib.Omega.{arith}
use lib.Seq.{length-take-le}
use Rattle.gaps_lines.specs.Pieces.{block_text}
use borrow.Author.Rules.{rules}
use Rattle.gaps_lines.proofs.job.put_block.Goals as goal

pub slice_bounds-moves-end : goal.slice_bounds-moves-end
slice_bounds-moves-end c = sym (length-take-le _ _ (search rules))

pub slice_bounds-moves-end-2 : goal.slice_bounds-moves-end-2
slice_bounds-moves-end-2 c = sym (length-take-le _ _ (search rules))

pub returns : goal.returns
unfolding block_text
returns c =
    rw (
      c.floats_at-points_b.ensures.1 (omega arith) (omega (arith, c.byte-2.ensures, c.requires.2)),
      c.floats_at-points_a.ensures.1 (omega arith) (omega (arith, c.byte.ensures, c.requires.1)),
      c.byte-2.ensures,
      c.byte.ensures,
      c.from_bits-most.ensures,
      c.word.ensures,
      c.move_from-move_b.ensures,
      c.move_from-move_a.ensures,
    ) at c.put_gaps.ensures
