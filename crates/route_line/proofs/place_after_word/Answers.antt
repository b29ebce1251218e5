-- `route_line::place_after_word` meets its contract, by its tests. Assumes nothing.
use borrow.Author.Rules.{rules}
use borrow.Author.Tests.{eq-eqb, ne_eqb}
use Rattle.route_line.proofs.place_after_word.Goals as goal

pub returns-then-x-eq32 : goal.returns-then-x-eq32
returns-then-x-eq32 c = simp (c.place_if.ensures, c.takes_word.ensures, eq-eqb _ _ c.if-x-eq32.true)

pub returns-then-x-eq10 : goal.returns-then-x-eq10
returns-then-x-eq10 c = simp (
  c.place_if-then-x-eq10.ensures,
  c.is_whole.ensures,
  ne_eqb _ _ c.if-x-eq32.false,
  eq-eqb _ _
      c.if-x-eq10.true,
)

pub returns : goal.returns
returns c = simp (ne_eqb _ _ c.if-x-eq32.false, ne_eqb _ _ c.if-x-eq10.false)
