-- `convert_forms::convert_blocks` meets its contract: what the blocks so far come to stands at the start of both. Assumes nothing.
use Rattle.std.proofs.Common.{◌≡◌, refl, ◌∙◌, ◌+◌, ◌*◌, ◌≤◌, [], ◌∷◌, length, arith, rules}
use Rattle.std.proofs.Math.ListN.{length-append}
use Rattle.model.specs.Blocks.{whole_blocks}
use Rattle.runs.proofs.Walked.{walk_begins, block_here, block_inside, walk-on, all_walked}
use Rattle.text.proofs.Pasted.{put-nothing}
use Rattle.convert_forms.specs.Convert.{converted, told_from}
use Rattle.convert_forms.proofs.Laws.{file-step, text-step, file-grows, text-grows}
use Rattle.convert_forms.proofs.convert_blocks.Goals as goal

pub loop-block-init : goal.loop-block-init
unfolding whole_blocks converted told_from
loop-block-init c = let made = c.chunks_exact-block-items.ensures in (
  walk_begins c.into_iter-block-iterator.ensures.into_iter_gives made.rest made.size,
  omega arith,
  refl,
  refl,
  omega arith,
  omega arith,
  put-nothing _ _,
  put-nothing _ _,
)

pub convert_block-at-requires : goal.convert_block-at-requires
convert_block-at-requires c = let l = c.loop-block in
    let inside = block_inside l.invariant.0 c.in-Some.block c.next.new.self c.in-Some.ensures.steps in
    let size = c.in-Some.ensures.steps.1.1 ∙ l.invariant.0.size in record {
      bytes_len = (size, omega (arith, inside, l.invariant.1, c.requires.2, c.well_formed));
      block_size_in_bounds = (
        omega (arith, inside, l.invariant.2, l.invariant.4, c.requires.0),
        omega (arith, inside, l.invariant.3, l.invariant.5, c.requires.1),
      );
    }

pub overflow_add-n : goal.overflow_add-n
overflow_add-n c = let inside = block_inside c.loop-block.invariant.0 c.in-Some.block c.next.new.self c.in-Some.ensures.steps in search rules

pub loop-block-preserved : goal.loop-block-preserved
loop-block-preserved c = let w = c.convert_block-at in
    let l = c.loop-block in
    let part = c.args.part.now in
    let before = c.args.before in
    let i = length l.yielded in
    let b = c.in-Some.block in
    let s = c.in-Some.ensures.steps in
    let here = block_here l.invariant.0 b c.next.new.self s in
    let inside = block_inside l.invariant.0 b c.next.new.self s in
    let file = rw here at w.ensures.put in
    let text = rw here at w.ensures.put_2 in
    rw (length-append l.yielded (b ∷ [])) (
      walk-on l.invariant.0 b c.next.new.self s,
      omega (arith, l.invariant.1),
      w.auto.file ∙ l.invariant.2,
      w.auto.text ∙ l.invariant.3,
      omega (arith, l.invariant.4, file-grows part before i inside file),
      omega (arith, l.invariant.5, text-grows part before i inside l.n text),
      file-step part before i inside l.invariant.6 file,
      text-step part before i inside l.invariant.7 (rw l.invariant.1 at text),
    )

pub shape_of-file : goal.shape_of-file
shape_of-file c = c.loop-block.invariant.2

pub shape_of-text : goal.shape_of-text
shape_of-text c = c.loop-block.invariant.3

pub returns : goal.returns
returns c = let l = c.loop-block in
    let done = all_walked l.invariant.0 c.in-None.ensures.steps in
    record { put = rw done at l.invariant.6; put_2 = rw done at l.invariant.7; text_bound = rw done at l.invariant.5 }
