-- `solvers::solve` meets its contract, by its tests and what its callees ensure. Assumes nothing.
use borrow.Author.Tests.{eq-eqb, ne_eqb}
use Rattle.model.specs.Simplex.{solve}
use Rattle.simplex.proofs.solvers.solve.Goals as goal

pub returns-then-count-eq1 : goal.returns-then-count-eq1
unfolding solve
returns-then-count-eq1 c = simp (c.neg-direction.ensures, eq-eqb _ _ c.if-count-eq1.true)

pub returns-then-count-eq2 : goal.returns-then-count-eq2
unfolding solve
returns-then-count-eq2 c = rw (ne_eqb _ _ c.if-count-eq1.false, eq-eqb _ _ c.if-count-eq2.true) c.solve_simplex2.ensures

pub returns : goal.returns
unfolding solve
returns c = rw (ne_eqb _ _ c.if-count-eq1.false, ne_eqb _ _ c.if-count-eq2.false) c.solve_simplex3.ensures
