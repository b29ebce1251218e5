-- `any_contact_search::search_blocks` meets its contract: what is left to search tells what the whole does. Assumes nothing.
use Rattle.std.proofs.Common.{◌≡◌, sym, ap, ◌∙◌, ◌+◌, ◌*◌, ◌/◌, ◌≤◌, ◌<◌, [], ◌∷◌, length, arith, rules}
use Rattle.std.proofs.Math.ListN.{length-append}
use Rattle.std.specs.Float.{binary32}
use Rattle.model.specs.Work.{block_answer}
use Rattle.runs.proofs.Walked.{walk_begins, block_here, block_inside, walk-on, all_walked}
use Rattle.any_contact_search.proofs.Blocks.{from_start, none_left, found_here, passed_over}
use Rattle.any_contact_search.proofs.search_blocks.Goals as goal

pub loop-block-init : goal.loop-block-init
loop-block-init c = let made = c.chunks_exact-block-items.ensures in
    (walk_begins c.into_iter-block-iterator.ensures.into_iter_gives made.rest made.size, omega arith, from_start c.args.part.now _ _)

pub overflow_add-n : goal.overflow_add-n
overflow_add-n c = let inside = block_inside c.loop-block.invariant.0 c.in-Some.block c.next.new.self c.in-Some.ensures.steps in search rules

pub returns-then-is_contact : goal.returns-then-is_contact
returns-then-is_contact c = let l = c.loop-block in
    let s = c.in-Some.ensures.steps in
    let more : length l.yielded < length c.args.part.now / 512 = omega (arith, block_inside l.invariant.0 c.in-Some.block c.next.new.self s) in
    let answer = c.answer_block.ensures ∙ ap (block_answer binary32) (block_here l.invariant.0 c.in-Some.block c.next.new.self s) in
    let so = sym c.is_contact.ensures ∙ c.if-is_contact.true in
    sym (found_here _ _ _ _ more _ answer so) ∙ l.invariant.2

pub loop-block-preserved : goal.loop-block-preserved
loop-block-preserved c = let l = c.loop-block in
    let s = c.in-Some.ensures.steps in
    let more : length l.yielded < length c.args.part.now / 512 = omega (arith, block_inside l.invariant.0 c.in-Some.block c.next.new.self s) in
    let answer = c.answer_block.ensures ∙ ap (block_answer binary32) (block_here l.invariant.0 c.in-Some.block c.next.new.self s) in
    let not_so = sym c.is_contact.ensures ∙ c.if-is_contact.false in
    rw (length-append l.yielded (c.in-Some.block ∷ [])) (
      walk-on l.invariant.0 c.in-Some.block c.next.new.self s,
      omega (arith, l.invariant.1),
      passed_over _ _ _ _ more _ answer not_so ∙ l.invariant.2,
    )

pub returns : goal.returns
returns c = let l = c.loop-block in
    let done = all_walked l.invariant.0 c.in-None.ensures.steps in
    sym (none_left c.args.part.now (length c.args.part.now / 512) l.n (length l.yielded) (omega (arith, done))) ∙ l.invariant.2
