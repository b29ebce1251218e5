-- `clearance_lines::part::write_blocks` meets its contract: the blocks so far are worked. Assumes nothing.
use Rattle.std.proofs.Common.{◌+◌, [], ◌∷◌, length, arith}
use Rattle.std.proofs.Math.ListN.{length-append}
use Rattle.model.specs.Blocks.{whole_blocks}
use Rattle.model.specs.Parts.{count_limit}
use Rattle.runs.proofs.Walked.{walk_begins, block_here, block_inside, walk-on, all_walked}
use Rattle.clearance_lines.proofs.Parts.{below_less, below_more, none-worked, block-worked, worked-most}
use Rattle.clearance_lines.proofs.part.write_blocks.Goals as goal

pub loop-block-init : goal.loop-block-init
unfolding whole_blocks
loop-block-init c = let made = c.chunks_exact-block-items.ensures in
    record {
      walked = walk_begins c.into_iter-block-iterator.ensures.into_iter_gives made.rest made.size;
      worked = none-worked _ _ _;
      bound = below_less (omega arith) c.requires.1;
    }

pub write_answer-totals-requires : goal.write_answer-totals-requires
write_answer-totals-requires c = let l = c.loop-block.invariant in
    let inside = block_inside l.walked c.in-Some.block c.next.new.self c.in-Some.ensures.steps in
    (omega (arith, c.requires.0, l.worked.lines.most, l.worked.lines.size, inside), below_less (omega (arith, c.well_formed, inside)) l.bound)

pub loop-block-preserved : goal.loop-block-preserved
loop-block-preserved c =
    let l = c.loop-block in
    let so_far = l.invariant in
    let i = length l.yielded in
    let w = c.write_answer-totals.ensures in
    let x = c.clear_block-answer in
    let b = c.in-Some.block in
    let s = c.in-Some.ensures.steps in
    let here = block_here so_far.walked b c.next.new.self s in
    rw (length-append l.yielded (b ∷ [])) (record {
      walked = walk-on so_far.walked b c.next.new.self s;
      worked = worked-most (omega arith) (block-worked _ i x.result (omega arith) so_far.worked (rw here at x.ensures) w.line w.totals_value);
      bound = rw w.totals_value (below_less (omega arith) (below_more (count_limit + i) l.totals x.result.answer so_far.bound));
    })

pub returns : goal.returns
returns c = let l = c.loop-block.invariant in
    let done = all_walked l.walked c.in-None.ensures.steps in
    record { worked = rw done at l.worked; bound = rw done at l.bound }
