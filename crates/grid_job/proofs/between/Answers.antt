-- `grid_job::between` meets its contract. Assumes nothing.
use native.Mathlib.Omega.{arith}
use mathlib.Core.Path.{sym, subst}
use Rattle.model.specs.declared.Vector.{Vector}
use Rattle.grid_job.specs.Placing.{Near}
use Rattle.grid_job.proofs.Laws.{between-law}
use borrow.Author.Rules.{rules}
use Rattle.grid_job.proofs.between.Goals as goal

pub less-requires : goal.less-requires
less-requires c = let f = c.args in (
  subst (λ (v : Vector). Near v.x f.g) (sym c.point-q.ensures) c.requires.1.x,
  subst (λ (v : Vector). Near v.x
      f.g) (sym c.point-p.ensures) c.requires.0.x,
)

pub less-requires-2 : goal.less-requires-2
less-requires-2 c = let f = c.args in (
  subst (λ (v : Vector). Near v.y f.g) (sym c.point-q.ensures) c.requires.1.y,
  subst (λ (v : Vector).
      Near v.y f.g) (sym c.point-p.ensures) c.requires.0.y,
)

pub returns : goal.returns
returns c = let f = c.args in
    between-law f.numbers.now f.i f.j f.g c.point-p.result c.point-q.result
    c.less.result c.less-2.result c.point-p.ensures c.point-q.ensures
    c.less.ensures c.less-2.ensures
