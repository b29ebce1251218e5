-- `unpack_blocks::unpack_part` meets its contract: both texts of the blocks so far stand at the start. Assumes nothing.
use Rattle.std.proofs.Common.{◌≡◌, refl, ◌∙◌, ℕ, ◌+◌, ◌*◌, ◌/◌, ◌≤◌, ◌<◌, [], ◌∷◌, length, take, arith, rules}
use Rattle.std.proofs.Math.ListN.{length-append}
use Rattle.std.proofs.Math.Seq.{length-take-le}
use Rattle.runs.proofs.Walked.{walk_begins, block_here, block_inside, walk-on, all_walked}
use Rattle.text.proofs.Pasted.{put-nothing}
use Rattle.text.proofs.Lengths.{ends}
use Rattle.model.specs.Blocks.{whole_blocks}
use Rattle.unpack_blocks.specs.Unpack.{lines_of, refusals_of}
use Rattle.job_text.proofs.Fitting.{Room, used-fits, count_fits}
use Rattle.unpack_blocks.proofs.Blocks.{front_block, lines_more, refusals-more, length-unpacked, length-refused}
use Rattle.unpack_blocks.proofs.unpack_part.Goals as goal

pub overflow_mul-used : goal.overflow_mul-used
overflow_mul-used c = let a = c.args in
    let u = used-fits (length a.part.now / 512) (length a.out.now / 855) (length a.err.now) a.before c.used_of-n.ensures in
    search rules

pub slice_bounds-chunks_exact-end : goal.slice_bounds-chunks_exact-end
slice_bounds-chunks_exact-end c = let a = c.args in
    let u = used-fits (length a.part.now / 512) (length a.out.now / 855) (length a.err.now) a.before c.used_of-n.ensures in
    search rules

pub loop-block-init : goal.loop-block-init
unfolding whole_blocks lines_of refusals_of
loop-block-init c = let made = c.chunks_exact-block-items.ensures in (
  walk_begins c.into_iter-block-iterator.ensures.into_iter_gives made.rest made.size,
  refl,
  refl,
  omega arith,
  omega arith,
  omega arith,
  put-nothing _ _,
  put-nothing _ _,
)

pub overflow_add-blocks : goal.overflow_add-blocks
overflow_add-blocks c = let a = c.args in
    let l = c.loop-block in
    let u = used-fits (length a.part.now / 512) (length a.out.now / 855) (length a.err.now) a.before c.used_of-n.ensures in
    let size : length (take (512 * c.used_of-n.result) a.part.now) ≡ 512 * c.used_of-n.result = length-take-le _ _ (omega (arith, u.inside)) in
    let inside = block_inside l.invariant.0 c.in-Some.block c.next.new.self c.in-Some.ensures.steps in
    let fits = count_fits u (search rules) (omega arith) in
    omega (arith, fits, l.invariant.5, size, inside)

pub overflow_add-blocks-in-loop-block : goal.overflow_add-blocks-in-loop-block
overflow_add-blocks-in-loop-block c = let a = c.args in
    let l = c.loop-block in
    let u = used-fits (length a.part.now / 512) (length a.out.now / 855) (length a.err.now) a.before c.used_of-n.ensures in
    let size : length (take (512 * c.used_of-n.result) a.part.now) ≡ 512 * c.used_of-n.result = length-take-le _ _ (omega (arith, u.inside)) in
    let inside = block_inside l.invariant.0 c.in-Some.block c.next.new.self c.in-Some.ensures.steps in
    let fits = count_fits u (search rules) (omega arith) in
    omega (arith, fits, l.invariant.5, size, inside)

pub put_block-places-requires : goal.put_block-places-requires
put_block-places-requires c = let a = c.args in
    let l = c.loop-block in
    let u = used-fits (length a.part.now / 512) (length a.out.now / 855) (length a.err.now) a.before c.used_of-n.ensures in
    let size : length (take (512 * c.used_of-n.result) a.part.now) ≡ 512 * c.used_of-n.result = length-take-le _ _ (omega (arith, u.inside)) in
    let inside = block_inside l.invariant.0 c.in-Some.block c.next.new.self c.in-Some.ensures.steps in (
      omega (arith, l.invariant.1, l.invariant.3, u.room, size, inside),
      omega (arith, l.invariant.2, l.invariant.4, u.refusals, size, inside),
    )

pub loop-block-preserved : goal.loop-block-preserved
loop-block-preserved c = let a = c.args in
    let l = c.loop-block in
    let p = c.put_block-places in
    let n = c.used_of-n.result in
    let part = a.part.now in
    let i = length l.yielded in
    let b = c.in-Some.block in
    let s = c.in-Some.ensures.steps in
    let u = used-fits (length a.part.now / 512) (length a.out.now / 855) (length a.err.now) a.before c.used_of-n.ensures in
    let size : length (take (512 * c.used_of-n.result) a.part.now) ≡ 512 * c.used_of-n.result = length-take-le _ _ (omega (arith, u.inside)) in
    let inside = block_inside l.invariant.0 c.in-Some.block c.next.new.self c.in-Some.ensures.steps in
    let here = block_here l.invariant.0 b c.next.new.self s ∙ front_block part i (512 * n) (omega (arith, size, inside)) in
    let within : 512 * i + 512 ≤ length part = omega (arith, size, inside, u.inside) in
    rw (length-append l.yielded (b ∷ [])) (
      walk-on l.invariant.0 b c.next.new.self s,
      p.auto.out ∙ l.invariant.1,
      p.auto.err ∙ l.invariant.2,
      omega (arith, ends p.ensures.0 (length-unpacked _), l.invariant.3),
      omega (arith, ends p.ensures.1 (length-refused _ _), l.invariant.4),
      omega (arith, l.invariant.5),
      lines_more part i within l.invariant.6 (rw here at p.ensures.0),
      refusals-more part i within a.before l.invariant.7 (rw (here, l.invariant.5) at p.ensures.1),
    )

pub shape_of-out : goal.shape_of-out
shape_of-out c = c.loop-block.invariant.1

pub shape_of-err : goal.shape_of-err
shape_of-err c = c.loop-block.invariant.2

pub returns : goal.returns
returns c = let a = c.args in
    let l = c.loop-block in
    let used = c.used_of-n.ensures in
    let u = used-fits (length a.part.now / 512) (length a.out.now / 855) (length a.err.now) a.before c.used_of-n.ensures in
    let size : length (take (512 * c.used_of-n.result) a.part.now) ≡ 512 * c.used_of-n.result = length-take-le _ _ (omega (arith, u.inside)) in
    let all = all_walked l.invariant.0 c.in-None.ensures.steps in
    let done : length l.yielded ≡ c.used_of-n.result = omega (arith, all, size) in
    record { put = rw (done, used) at l.invariant.6; put_2 = (rw (done, used) at l.invariant.7, rw (done, used) at l.invariant.5) }
