-- `route_line::count_in_word` meets its contract, by its tests. Assumes nothing.
use borrow.Author.Rules.{rules}
use borrow.Author.Tests.{eq-eqb, ne_eqb}
use Rattle.route_line.proofs.count_in_word.Goals as goal

pub returns-then-place-eq-LAST_DIGIT : goal.returns-then-place-eq-LAST_DIGIT
returns-then-place-eq-LAST_DIGIT c = simp (c.one_more.ensures, eq-eqb _ _ c.if-place-eq-LAST_DIGIT.true)

pub returns : goal.returns
returns c = simp (ne_eqb _ _ c.if-place-eq-LAST_DIGIT.false)
