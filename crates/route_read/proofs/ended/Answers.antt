-- `route_read::ended` meets its contract, by its tests. Assumes nothing.
use borrow.Author.Tests.{eq-eqb, ne_eqb}
use Rattle.route_read.proofs.ended.Goals as goal

pub returns-then-line-eq-BETWEEN : goal.returns-then-line-eq-BETWEEN
returns-then-line-eq-BETWEEN c = simp (eq-eqb _ _ c.if-line-eq-BETWEEN.true)

pub returns : goal.returns
returns c = simp (ne_eqb _ _ c.if-line-eq-BETWEEN.false)
