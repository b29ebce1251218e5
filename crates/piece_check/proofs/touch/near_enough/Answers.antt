-- The theorem over what each part found. Assumes nothing.
use native.Mathlib.Omega.{arith}
use Rattle.holding.proofs.Together.{gripped-touches}
use Rattle.holding.proofs.Laws.{gripped-by}
use Rattle.piece_check.proofs.touch.near_enough.Goals as goal

pub returns : goal.returns
returns c = λ h.
    let x = c.args in
    let a = c.in-Some in
    let b = c.in-Some-held_at in
    let held_a = rw c.side_a.ensures at a.ensures.2 in
    let held_b = rw c.side_b.ensures at b.ensures.2 in
    gripped-touches x.job x.k x.g x.on.a.xs.now x.on.a.ys.now x.on.b.xs.now x.on.b.ys.now c.requires
    (gripped-by x.job x.k x.g x.on.a.xs.now x.on.a.ys.now x.on.b.xs.now x.on.b.ys.now a.a b.b (omega (
      arith,
      c.if-k-gt16777216.false,
    )) (c.names.ensures c.if-not-names.false) held_a held_b (c.decided.ensures h))
