-- What is held is so by `held_by`. Assumes nothing.
use native.Mathlib.Omega.{arith}
use Rattle.holding.proofs.Laws.{held_by}
use Rattle.standing.specs.Seen.{Seen}
use Rattle.piece_check.proofs.touch.held_at.Goals as goal

pub returns : goal.returns
returns c =
    let a = c.args in
    let s = a.s in
    let margin = c.in_ok-margin.margin in
    let seen : Seen c.arc_at-arc.result s.l s.l a.o.reach margin = c.in_ok-margin.ensures in
    let point = c.weighted-point in
    let placed = c.turned_down in (
      record { place = placed.ensures.small; blur = c.blur.ensures.few },
      omega (arith, seen.small),
      record {
        turn = c.arc_at-arc.result.p0;
        point = point.result;
        held = held_by a.o a.outline.xs.now a.outline.ys.now a.k s.l s.i0 s.i1 s.i2 s.w0 s.w1 s.w2 c.blur.result margin
            c.arc_at-arc.result point.result placed.result c.if-l-lt1.false
            c.arc_at-arc.ensures seen c.blur.ensures point.ensures placed.ensures;
      },
    )
