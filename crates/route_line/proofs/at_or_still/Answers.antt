-- `route_line::at_or_still` meets its contract, by its tests. Assumes nothing.
use borrow.Author.Tests.{eq-eqb, ne_eqb}
use Rattle.route_line.proofs.at_or_still.Goals as goal

pub returns-then-x-eq65 : goal.returns-then-x-eq65
returns-then-x-eq65 c = simp (eq-eqb _ _ c.if-x-eq65.true)

pub returns-else-x-eq65 : goal.returns-else-x-eq65
returns-else-x-eq65 c = simp (ne_eqb _ _ c.if-x-eq65.false)
