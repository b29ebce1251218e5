-- `convert_forms::convert_part` meets its contract: nothing where there is no room; else the whole blocks, and the number of a rest. Assumes nothing.
use mathlib.Core.Path.{refl, sym, ◌∙◌}
use native.Mathlib.Omega.{arith}
use Rattle.model.proofs.Blocks.{whole-counted, rest-counted}
use Rattle.text.proofs.Pasted.{put-nothing, put_then}
use Rattle.text.proofs.Lengths.{roomy}
use Rattle.convert_forms.proofs.Laws.{room_of, whole-converted, whole-told, rest-converted, rest-told}
use Rattle.convert_forms.proofs.convert_part.Goals as goal

pub returns-then-not-fits : goal.returns-then-not-fits
returns-then-not-fits c = simp (← c.fits.ensures, c.if-not-fits.true) (record { put = (put-nothing _ _, put-nothing _ _); blocks_value = (refl, refl) })

pub convert_blocks-at-requires : goal.convert_blocks-at-requires
convert_blocks-at-requires c = let fits = sym c.fits.ensures ∙ c.if-not-fits.false in
    let room = room_of c.args.part.now c.args.file.now c.args.text.now c.args.before fits in
    (room.blocks, omega (arith, room.numbers), room.small)

pub overflow_add-count : goal.overflow_add-count
overflow_add-count c = let fits = sym c.fits.ensures ∙ c.if-not-fits.false in
    let room = room_of c.args.part.now c.args.file.now c.args.text.now c.args.before fits in
    omega (arith, room.small, c.well_formed, c.ranges)

pub returns-then-part-eq0 : goal.returns-then-part-eq0
returns-then-part-eq0 c = let fits = sym c.fits.ensures ∙ c.if-not-fits.false in
    let room = room_of c.args.part.now c.args.file.now c.args.text.now c.args.before fits in
    let w = c.convert_blocks-at in
    let b = c.args.part.now in
    let none = c.if-part-eq0.true in
    rw (fits, whole-converted b none, whole-told b none c.args.before, whole-counted b none)
    (record { put = (w.ensures.put, w.ensures.put_2); blocks_value = (refl, refl) })

pub overflow_add-count-2 : goal.overflow_add-count-2
overflow_add-count-2 c = let fits = sym c.fits.ensures ∙ c.if-not-fits.false in
    let room = room_of c.args.part.now c.args.file.now c.args.text.now c.args.before fits in
    omega (arith, room.small, c.well_formed, c.ranges)

pub overflow_add-result : goal.overflow_add-result
overflow_add-result c = let fits = sym c.fits.ensures ∙ c.if-not-fits.false in
    let room = room_of c.args.part.now c.args.file.now c.args.text.now c.args.before fits in
    omega (arith, room.small, c.well_formed, c.ranges)

pub returns : goal.returns
returns c = let fits = sym c.fits.ensures ∙ c.if-not-fits.false in
    let room = room_of c.args.part.now c.args.file.now c.args.text.now c.args.before fits in
    let w = c.convert_blocks-at in
    let b = c.args.part.now in
    let some = c.if-part-eq0.false in
    let number = roomy 21 c.put_number-end.ensures (omega (arith, room.numbers, w.ensures.text_bound, w.auto.text)) in
    rw (fits, rest-converted b some, rest-told b some c.args.before, rest-counted b some)
    (record { put = (w.ensures.put, put_then (omega arith) w.ensures.put_2 number); blocks_value = (omega arith, refl) })
