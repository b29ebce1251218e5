-- `pack_lines::pack_part` meets its contract: the places show the run over the bytes so far. Assumes nothing.
use mathlib.Core.Path.{◌≡◌, refl, sym, ◌∙◌}
use Prim.Native.Nat.{◌≤◌, ◌/◌, ◌<◌}
use native.Mathlib.Omega.{arith}
use lib.ListN.{length, take, get_or}
use lib.Seq.{length-take-le}
use Rattle.std.proofs.lemmas.List.{get_or-take}
use Rattle.job_text.proofs.Fitting.{used-fits}
use Rattle.pack_lines.proofs.Runs.{run_more, starting, shows-start, shows-byte, goes_further, run-in-is}
use borrow.Author.Rules.{rules}
use Rattle.pack_lines.proofs.pack_part.Goals as goal

pub loop-x-init : goal.loop-x-init
loop-x-init c = let a = c.args in
    let p = c.lay-size in (
      refl,
      refl,
      omega (arith, p.auto.line),
      p.ensures.1,
      omega arith,
      omega arith,
      omega arith,
      shows-start a.out.now a.err.now (take p.result p.new.line) a.held.lines a.part.now,
    )

pub slice_bounds-x-items-end : goal.slice_bounds-x-items-end
slice_bounds-x-items-end c = let a = c.args in
    let u = used-fits (length a.part.now) (length a.out.now / 512) (length a.err.now) a.held.lines c.used_of-n.ensures in
    sym (length-take-le c.used_of-n.result a.part.now (omega (arith, u.inside)))

pub slice_bounds-hold-end : goal.slice_bounds-hold-end
slice_bounds-hold-end c = sym c.loop-x.invariant.2

pub hold-now-requires : goal.hold-now-requires
hold-now-requires c = (c.loop-x.invariant.2, c.loop-x.invariant.3)

pub slice_bounds-line-end : goal.slice_bounds-line-end
slice_bounds-line-end c = omega (arith, c.hold-now.ensures.1, c.hold-now.auto.line, c.loop-x.invariant.2)

pub slice_bounds-end_line-end : goal.slice_bounds-end_line-end
slice_bounds-end_line-end c = let h = c.hold-now in
    sym (length-take-le _ _ (omega (arith, h.ensures.1, h.auto.line, c.loop-x.invariant.2)))

pub end_line-ended-requires : goal.end_line-ended-requires
end_line-ended-requires c = let l = c.loop-x in
    let a = c.args in
    let u = used-fits (length a.part.now) (length a.out.now / 512) (length a.err.now) a.held.lines c.used_of-n.ensures in
    let more : l.x-index < c.used_of-n.result = omega (arith, length-take-le c.used_of-n.result a.part.now (omega (arith, u.inside))) in (
      omega (arith, more, l.invariant.0, l.invariant.5, u.room),
      omega (arith, more, l.invariant.1, l.invariant.6, u.refusals),
      omega (arith, more, l.invariant.4, u.room, u.countable (omega (arith, more)), c.well_formed.1.1.0),
    )

pub loop-x-preserved : goal.loop-x-preserved
loop-x-preserved c = let e = c.end_line-ended in
    let h = c.hold-now in
    let l = c.loop-x in
    let p = c.lay-size in
    let a = c.args in
    let n = c.used_of-n.result in
    let i = l.x-index in
    let u = used-fits (length a.part.now) (length a.out.now / 512) (length a.err.now) a.held.lines c.used_of-n.ensures in
    let more : i < n = omega (arith, length-take-le n a.part.now (omega (arith, u.inside))) in
    let here = get_or-take n a.part.now i 0 more in
    let f = goes_further e.ensures in
    let inside : i < length a.part.now = omega (arith, u.inside, more) in
    let same = h.auto.line ∙ l.invariant.2 in
    let most : h.result ≤ length h.new.line = omega (arith, h.ensures.1, same) in (
      e.auto.out ∙ l.invariant.0,
      e.auto.err ∙ l.invariant.1,
      same,
      omega (arith, f.held, length-take-le h.result h.new.line most, h.ensures.1),
      omega (arith, f.ended, l.invariant.4),
      omega (arith, f.written, l.invariant.5),
      omega (arith, f.complaints, l.invariant.6),
      rw (run_more (starting (take p.result p.new.line) a.held.lines) a.part.now i inside)
          (shows-byte _ _ _ _ h.new.line h.result most l.invariant.7 (rw here at h.ensures.0) (rw here at e.ensures)),
    )

pub slice_bounds-line-end-2 : goal.slice_bounds-line-end-2
slice_bounds-line-end-2 c = omega (arith, c.loop-x.invariant.2, c.loop-x.invariant.3)

pub slice_bounds-kept-end : goal.slice_bounds-kept-end
slice_bounds-kept-end c = let l = c.loop-x in
    sym (length-take-le _ _ (omega (arith, l.invariant.2, l.invariant.3)))

pub kept-after-requires : goal.kept-after-requires
kept-after-requires c = let l = c.loop-x in
    omega (arith, l.invariant.3, length-take-le l.ended.size l.line (omega (arith, l.invariant.2, l.invariant.3)))

pub shape_of-out : goal.shape_of-out
shape_of-out c = c.loop-x.invariant.0

pub shape_of-err : goal.shape_of-err
shape_of-err c = c.loop-x.invariant.1

pub returns : goal.returns
returns c = let l = c.loop-x in
    let a = c.args in
    let u = used-fits (length a.part.now) (length a.out.now / 512) (length a.err.now) a.held.lines c.used_of-n.ensures in
    let done : l.x-index ≡ c.used_of-n.result = omega (arith, length-take-le c.used_of-n.result a.part.now (omega (arith, u.inside))) in
    let run = run-in-is a.held a.part.now (length a.out.now) (length a.err.now) _ done c.used_of-n.ensures c.lay-size.ensures.0 in
    let s = rw run at l.invariant.7 in
    record { put = s.written; put_2 = (s.complaints, c.kept-after.ensures ∙ rw (s.held, s.ended)) }
