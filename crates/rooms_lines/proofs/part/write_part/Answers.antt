-- `rooms_lines::part::write_part` meets its contract: nothing where there is no room; else the blocks, the rest and, after the last part, the totals. Assumes nothing.
use mathlib.Core.Path.{refl, sym, ◌∙◌}
use native.Mathlib.Omega.{arith}
use lib.ListN.{length}
use borrow.Author.Rules.{rules}
use Rattle.rooms_lines.proofs.Parts.{below_less, fits-room, all-worked, no_room, last-part, part-with-more}
use Rattle.rooms_lines.proofs.part.write_part.Goals as goal

pub returns-then-not-fits : goal.returns-then-not-fits
returns-then-not-fits c = no_room _ _ _ (sym c.fits.ensures ∙ c.if-not-fits.true)

pub write_blocks-blocks-requires : goal.write_blocks-blocks-requires
write_blocks-blocks-requires c =
    let r = fits-room (length c.args.part.now) (length c.args.out.now) c.args.t (sym c.fits.ensures ∙ c.if-not-fits.false) in
    (omega (arith, r.lines), r.small)

pub write_rest-totals-requires : goal.write_rest-totals-requires
write_rest-totals-requires c =
    let r = fits-room (length c.args.part.now) (length c.args.out.now) c.args.t (sym c.fits.ensures ∙ c.if-not-fits.false) in
    (omega (arith, r.lines), below_less (omega (arith, c.well_formed)) c.write_blocks-blocks.ensures.bound)

pub put_total-requires : goal.put_total-requires
put_total-requires c =
    let r = fits-room (length c.args.part.now) (length c.args.out.now) c.args.t (sym c.fits.ensures ∙ c.if-not-fits.false) in
    omega (arith, r.lines)

pub returns-then-part-lt-PART_SIZE : goal.returns-then-part-lt-PART_SIZE
returns-then-part-lt-PART_SIZE c =
    let all = all-worked _ (omega arith) c.write_blocks-blocks.ensures.worked c.write_rest-totals.ensures in
    last-part _ _ _ refl all (sym c.fits.ensures ∙ c.if-not-fits.false) c.if-part-lt-PART_SIZE.true c.put_total.ensures (search rules)

pub returns : goal.returns
returns c =
    let all = all-worked _ (omega arith) c.write_blocks-blocks.ensures.worked c.write_rest-totals.ensures in
    part-with-more _ _ _ refl all (sym c.fits.ensures ∙ c.if-not-fits.false) c.if-part-lt-PART_SIZE.false (search rules)
