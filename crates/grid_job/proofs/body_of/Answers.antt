-- `grid_job::body_of` meets its contract. Assumes nothing.
use native.Mathlib.Omega.{arith}
use mathlib.Core.Path.{sym, subst}
use Rattle.model.specs.declared.Vector.{Vector}
use Rattle.model.specs.Support.{point}
use Rattle.grid_job.specs.Placing.{Asked, Headed}
use Rattle.grid_job.proofs.Laws.{recentred}
use borrow.Author.Rules.{rules}
use Rattle.grid_job.proofs.body_of.Goals as goal

pub corners-reach-requires : goal.corners-reach-requires
corners-reach-requires c = let b1 = c.before.before.before.before.before.before in
    let f = b1.args in
    subst (λ (v : Vector). Asked f.points.now v f.g f.xs.now f.ys.now) (sym c.point-3.ensures)
    b1.requires.1

pub returns : goal.returns
returns c = let b1 = c.before.before.before.before.before.before in
    let b2 = b1.before.before.before.before.before.before in
    let f = b2.args in
    let k = c.corners-reach in
    record {
      corners = recentred f.points.now b1.point-3.result (point f.numbers.now f.i) f.g _ _ k.result
          b1.point-3.ensures k.ensures;
      first = subst (λ (v : Vector). Headed v b1.headed-q1.result)
          b1.point.ensures b1.headed-q1.ensures;
      last = subst (λ (v : Vector). Headed v b1.headed-q2.result) b1.point-2.ensures
          b1.headed-q2.ensures;
    }
