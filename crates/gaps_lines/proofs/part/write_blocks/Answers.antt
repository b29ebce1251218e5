-- `gaps_lines::part::write_blocks` meets its contract: the lines of the blocks so far are written, and the tally is theirs. Assumes nothing.
use Rattle.std.proofs.Common.{refl, ◌+◌, [], ◌∷◌, length, arith}
use Rattle.std.proofs.Math.ListN.{length-append}
use Rattle.std.specs.Float.{binary32}
use Rattle.model.specs.Blocks.{whole_blocks}
use Rattle.model.specs.Parts.{count_limit}
use Rattle.model.specs.Work.{block_answer}
use Rattle.runs.proofs.Walked.{walk_begins, block_here, block_inside, walk-on, all_walked}
use Rattle.text.proofs.Written.{wrote-nothing, wrote-most}
use Rattle.gaps_lines.specs.Gaps.{lines_from, tally_from}
use Rattle.gaps_lines.proofs.Parts.{below_less, below_more, line_step, tally-step}
use Rattle.gaps_lines.proofs.part.write_blocks.Goals as goal

pub loop-block-init : goal.loop-block-init
unfolding whole_blocks lines_from tally_from
loop-block-init c = let made = c.chunks_exact-block-items.ensures in
    record {
      walked = walk_begins c.into_iter-block-iterator.ensures.into_iter_gives made.rest made.size;
      lines = wrote-nothing _ _;
      tally_value = refl;
      bound = below_less (omega arith) c.requires.1;
    }

pub write_block-tally-requires : goal.write_block-tally-requires
write_block-tally-requires c = let l = c.loop-block.invariant in
    let inside = block_inside l.walked c.in-Some.block c.next.new.self c.in-Some.ensures.steps in
    (omega (arith, c.requires.0, l.lines.most, l.lines.size, inside), below_less (omega (arith, c.well_formed, inside)) l.bound)

pub loop-block-preserved : goal.loop-block-preserved
loop-block-preserved c =
    let l = c.loop-block in
    let so_far = l.invariant in
    let i = length l.yielded in
    let b = c.in-Some.block in
    let s = c.in-Some.ensures.steps in
    let here = block_here so_far.walked b c.next.new.self s in
    let inside = block_inside so_far.walked b c.next.new.self s in
    let written = rw here at c.write_block-tally.ensures in
    rw (length-append l.yielded (b ∷ [])) (record {
      walked = walk-on so_far.walked b c.next.new.self s;
      lines = wrote-most (omega arith) (line_step _ _ _ _ inside so_far.tally_value (omega arith) so_far.lines written.line);
      tally_value = tally-step _ _ _ _ inside so_far.tally_value written.tally_value;
      bound = rw c.write_block-tally.ensures.tally_value (below_less (omega arith) (below_more (count_limit + i) l.tally (block_answer binary32 b.now) so_far.bound));
    })

pub returns : goal.returns
returns c = let l = c.loop-block.invariant in
    let done = all_walked l.walked c.in-None.ensures.steps in
    record { lines = rw done at l.lines; tally_value = rw done at l.tally_value; bound = rw done at l.bound }
