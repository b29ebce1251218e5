-- Where Newton's rule came out too near, the wide span stands. Assumes nothing.
use native.Mathlib.Omega.{arith}
use Rattle.grid_job.proofs.Laws.{near-law}
use borrow.Author.Rules.{rules}
use Rattle.grid_job.proofs.span.Goals as goal

pub returns : goal.returns
returns c = let b = c.before.before.before.before.before in
    let x = b.distance in
    let y = b.distance-2 in
    let a = b.args in
    near-law a.x a.y x.result y.result c.nearer-near.result x.ensures y.ensures
    (omega (arith, b.square.ensures.0, b.square-2.ensures.0, c.square-3.ensures.0, c.if-square-n.false))
    c.nearer-near.ensures
