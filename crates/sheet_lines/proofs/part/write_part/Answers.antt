-- `sheet_lines::part::write_part` meets its contract: nothing where there is no room; else the blocks, the rest and, after the last part, the totals. Assumes nothing.
use mathlib.Core.Path.{refl, sym, ◌∙◌}
use mathlib.Core.List.{append-nil}
use native.Mathlib.Omega.{arith}
use lib.ListN.{length}
use borrow.Author.Rules.{rules}
use borrow.Author.Tests.{lt-ltb, le-ltb}
use Rattle.text.proofs.Pasted.{put-nothing}
use Rattle.text.proofs.Written.{wrote-then, left}
use Rattle.sheet_lines.proofs.Parts.{fits-room, below_less, all_lines, all-totals}
use Rattle.sheet_lines.proofs.part.write_part.Goals as goal

pub returns-then-not-fits : goal.returns-then-not-fits
returns-then-not-fits c = simp (← c.fits.ensures, c.if-not-fits.true) (record { put = put-nothing _ _; totals_value = (refl, refl) })

pub write_blocks-blocks-requires : goal.write_blocks-blocks-requires
write_blocks-blocks-requires c =
    let r = fits-room (length c.args.part.now) (length c.args.out.now) c.args.t (sym c.fits.ensures ∙ c.if-not-fits.false) in
    (omega (arith, r.lines), r.small)

pub write_rest-totals-requires : goal.write_rest-totals-requires
write_rest-totals-requires c =
    let r = fits-room (length c.args.part.now) (length c.args.out.now) c.args.t (sym c.fits.ensures ∙ c.if-not-fits.false) in
    (omega (arith, r.lines), below_less (omega (arith, c.well_formed)) c.write_blocks-blocks.ensures.bound)

pub put_total-requires : goal.put_total-requires
put_total-requires c =
    let r = fits-room (length c.args.part.now) (length c.args.out.now) c.args.t (sym c.fits.ensures ∙ c.if-not-fits.false) in
    omega (arith, r.lines)

pub returns-then-part-lt-PART_SIZE : goal.returns-then-part-lt-PART_SIZE
returns-then-part-lt-PART_SIZE c =
    let s = c.write_rest-totals.ensures in
    let w = c.write_blocks-blocks.ensures in
    let lines = all_lines _ _ _ w.totals_value (omega arith) w.lines s.lines in
    let totals = all-totals _ _ _ w.totals_value s.totals_value in
    rw (sym c.fits.ensures ∙ c.if-not-fits.false, lt-ltb _ _ c.if-part-lt-PART_SIZE.true) (record {
      put = left (wrote-then (omega arith) lines (rw totals at c.put_total.ensures)) (search rules);
      totals_value = (totals, refl);
    })

pub returns : goal.returns
returns c =
    let s = c.write_rest-totals.ensures in
    let w = c.write_blocks-blocks.ensures in
    rw (sym c.fits.ensures ∙ c.if-not-fits.false, le-ltb _ _ c.if-part-lt-PART_SIZE.false, append-nil) (record {
      put = left (all_lines _ _ _ w.totals_value (omega arith) w.lines s.lines) (search rules);
      totals_value = (all-totals _ _ _ w.totals_value s.totals_value, refl);
    })
