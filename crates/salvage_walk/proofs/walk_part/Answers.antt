-- `salvage_walk::walk_part` meets its contract: nothing where there is no room; else the walk, and the rest brought to the front. Assumes nothing.
use mathlib.Core.Path.{sym, ap, ◌∙◌}
use mathlib.Core.List.{[]}
use Prim.Native.Nat.{ℕ, ◌-◌}
use native.Mathlib.Omega.{arith}
use lib.ListN.{take}
use lib.Seq.{length-take-le}
use Rattle.salvage_walk.proofs.Laws.{no_room, with-room}
use borrow.Author.Rules.{rules}
use Rattle.salvage_walk.proofs.walk_part.Goals as goal

pub returns-then-not-fits : goal.returns-then-not-fits
returns-then-not-fits c = let size = length-take-le c.args.count c.args.buffer.now c.requires in
    no_room (take c.args.count c.args.buffer.now) c.args.walk _ [] _ [] _ []
    (rw size (sym c.fits.ensures ∙ c.if-not-fits.true))

pub slice_bounds-walk_on-end-2 : goal.slice_bounds-walk_on-end-2
slice_bounds-walk_on-end-2 c = sym (length-take-le _ _ (search rules))

pub walk_on-reached-requires : goal.walk_on-reached-requires
walk_on-reached-requires c = let size = length-take-le c.args.count c.args.buffer.now c.requires in
    rw size (sym c.fits.ensures ∙ c.if-not-fits.false)

pub slice_bounds-copy_rest-end-2 : goal.slice_bounds-copy_rest-end-2
slice_bounds-copy_rest-end-2 c = sym (length-take-le _ _ (search rules))

pub overflow_sub-left : goal.overflow_sub-left
overflow_sub-left c = let size = length-take-le c.args.count c.args.buffer.now c.requires in
    omega (arith, c.walk_on-reached.ensures.at_in_bounds.0, size)

pub slice_bounds-rest-end : goal.slice_bounds-rest-end
slice_bounds-rest-end c = let size = length-take-le c.args.count c.args.buffer.now c.requires in
    omega (arith, c.walk_on-reached.ensures.at_in_bounds.1, size)

pub slice_bounds-put_text-end : goal.slice_bounds-put_text-end
slice_bounds-put_text-end c = let size = length-take-le c.args.count c.args.buffer.now c.requires in
    sym (length-take-le _ _ (omega (arith, c.walk_on-reached.ensures.at_in_bounds.1, size)))

pub returns : goal.returns
returns c = let w = c.walk_on-reached in
    let b = take c.args.count c.args.buffer.now in
    let size = length-take-le c.args.count c.args.buffer.now c.requires in
    let rest = c.copy_rest-rest in
    let fine = sym c.fits.ensures ∙ c.if-not-fits.false in
    let same = ap (λ (n : ℕ). take (n - w.result.at) rest.result) (sym size) ∙ rest.ensures in
    with-room b c.args.walk _ _ _ _ _ _ w.result.at _ _ _ w.result.walk _ (rw size fine) w.ensures.at_value w.ensures.put same
    (omega (arith, size, c.requires)) c.put_text-end.ensures
