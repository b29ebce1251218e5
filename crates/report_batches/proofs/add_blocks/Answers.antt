-- `report_batches::add_blocks` meets its contract: the blocks so far are counted in. Assumes nothing.
use Rattle.std.proofs.Common.{◌≡◌, ap, ◌∙◌, [], ◌∷◌, length}
use Rattle.std.proofs.Math.ListN.{length-append}
use Rattle.std.specs.Float.{binary32}
use Rattle.model.specs.Work.{block_answer}
use Rattle.runs.proofs.Walked.{walk_begins, block_here, walk-on, all_walked}
use Rattle.report_batches.proofs.Laws.{no_block, block_more}
use Rattle.report_batches.proofs.add_blocks.Goals as goal

pub loop-block-init : goal.loop-block-init
loop-block-init c = let made = c.chunks_exact-block-items.ensures in
    (walk_begins c.into_iter-block-iterator.ensures.into_iter_gives made.rest made.size, no_block _ _)

pub loop-block-preserved : goal.loop-block-preserved
loop-block-preserved c = let l = c.loop-block in
    let b = c.in-Some.block in
    let s = c.in-Some.ensures.steps in
    let answered = c.answer_block.ensures ∙ ap (block_answer binary32) (block_here l.invariant.0 b c.next.new.self s) in
    rw (length-append l.yielded (b ∷ [])) (
      walk-on l.invariant.0 b c.next.new.self s,
      c.counted-so_far.ensures ∙ block_more c.args.r l.so_far c.args.part.now (length l.yielded) _ l.invariant.1 answered,
    )

pub returns : goal.returns
returns c = let l = c.loop-block in
    rw (all_walked l.invariant.0 c.in-None.ensures.steps) at l.invariant.1
