-- `all_clear_search::search_blocks` meets its contract: what is found among the blocks left is found among all. Assumes nothing.
use Rattle.std.proofs.Common.{sym, ◌∙◌, ◌/◌, ◌<◌, [], ◌∷◌, length, arith, rules}
use Rattle.std.proofs.Math.ListN.{length-append}
use Rattle.runs.proofs.Walked.{walk_begins, block_here, block_inside, walk-on, all_walked}
use Rattle.all_clear_search.proofs.First.{from_start, none_left, stopped, passed}
use Rattle.all_clear_search.proofs.search_blocks.Goals as goal

pub loop-block-init : goal.loop-block-init
loop-block-init c = let made = c.chunks_exact-block-items.ensures in
    (walk_begins c.into_iter-block-iterator.ensures.into_iter_gives made.rest made.size, omega arith, from_start c.args.part.now _ _)

pub overflow_add-n : goal.overflow_add-n
overflow_add-n c = let inside = block_inside c.loop-block.invariant.0 c.in-Some.block c.next.new.self c.in-Some.ensures.steps in search rules

pub returns-then-not-clears : goal.returns-then-not-clears
returns-then-not-clears c = let l = c.loop-block in
    let b = c.in-Some.block in
    let s = c.in-Some.ensures.steps in
    let more : length l.yielded < length c.args.part.now / 512 = omega (arith, block_inside l.invariant.0 b c.next.new.self s) in
    let here = block_here l.invariant.0 b c.next.new.self s in
    let so = sym c.clears.ensures ∙ c.if-not-clears.true in
    stopped _ _ _ _ _ more _ (rw here at c.clear_block.ensures) l.invariant.2 so

pub loop-block-preserved : goal.loop-block-preserved
loop-block-preserved c = let l = c.loop-block in
    let b = c.in-Some.block in
    let s = c.in-Some.ensures.steps in
    let more : length l.yielded < length c.args.part.now / 512 = omega (arith, block_inside l.invariant.0 b c.next.new.self s) in
    let here = block_here l.invariant.0 b c.next.new.self s in
    let so = sym c.clears.ensures ∙ c.if-not-clears.false in
    rw (length-append l.yielded (b ∷ [])) (
      walk-on l.invariant.0 b c.next.new.self s,
      omega (arith, l.invariant.1),
      passed _ _ _ _ _ more _ (rw here at c.clear_block.ensures) l.invariant.2 so,
    )

pub returns : goal.returns
returns c = let l = c.loop-block in
    let done = all_walked l.invariant.0 c.in-None.ensures.steps in
    none_left _ _ _ l.n (length l.yielded) (omega (arith, done)) l.invariant.2
