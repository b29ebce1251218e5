-- `route_line::place_in_word` meets its contract, by its tests. Assumes nothing.
use borrow.Author.Rules.{rules}
use borrow.Author.Tests.{lt-ltb, le-ltb, eq-eqb, ne_eqb}
use Rattle.route_line.proofs.place_in_word.Goals as goal

pub returns-then-digit-eq16 : goal.returns-then-digit-eq16
returns-then-digit-eq16 c = simp (eq-eqb _ _ c.if-digit-eq16.true)

pub returns-then-place-lt-LAST_DIGIT : goal.returns-then-place-lt-LAST_DIGIT
returns-then-place-lt-LAST_DIGIT c = simp (ne_eqb _ _ c.if-digit-eq16.false, lt-ltb _ _ c.if-place-lt-LAST_DIGIT.true)

pub returns : goal.returns
returns c = simp (c.place_if.ensures, ne_eqb _ _ c.if-digit-eq16.false, le-ltb _ _ c.if-place-lt-LAST_DIGIT.false)
