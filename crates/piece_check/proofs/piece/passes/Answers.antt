-- `piece::passes` meets its contract: what it has found is a piece that is seen. Assumes nothing.
use native.Mathlib.Omega.{arith}
use Rattle.standing.proofs.Clear.{seen-is-clear}
use Rattle.piece_check.proofs.piece.passes.Goals as goal

pub returns : goal.returns
returns c = λ h.
    let a = c.args in
    seen-is-clear a.job a.k0 a.k1 a.p a.on.a.xs.now a.on.a.ys.now a.on.b.xs.now a.on.b.ys.now c.requires (record {
      order = omega (arith, c.if-k0-k1.false);
      ends = omega (arith, c.if-k1-gt16777216.false);
      lengths = c.lengths_fit.ensures c.if-not-lengths_fit.false;
      axis0 = c.axis_fits.ensures c.if-not-axis_fits.false;
      axis1 = c.axis_fits-else-not-axis_fits.ensures c.if-not-axis_fits-2.false;
      arc_a = c.arc_at-arc_a.result;
      arc_b = c.arc_at-arc_b.result;
      is_a = c.arc_at-arc_a.ensures;
      is_b = c.arc_at-arc_b.ensures;
      ea = c.in-Some.e_a;
      eb = c.in-Some-margin_of.e_b;
      seen_a = c.in-Some.ensures;
      seen_b = c.in-Some-margin_of.ensures;
      start = c.heading-start.result;
      end = c.heading-end.result;
      at-start = c.heading-start.ensures;
      at-end = c.heading-end.ensures;
      far = c.four_apart.ensures h;
    })
