-- `route_read::lines_after` meets its contract, by its tests. Assumes nothing.
use borrow.Author.Rules.{rules}
use borrow.Author.Tests.{eq-eqb, ne_eqb}
use Rattle.route_read.proofs.lines_after.Goals as goal

pub returns-then-place-eq-BETWEEN : goal.returns-then-place-eq-BETWEEN
returns-then-place-eq-BETWEEN c = simp (c.next_line.ensures, eq-eqb _ _ c.if-place-eq-BETWEEN.true)

pub returns : goal.returns
returns c = simp (ne_eqb _ _ c.if-place-eq-BETWEEN.false)
