-- `route_line::named` meets its contract, by its tests. Assumes nothing.
use borrow.Author.Tests.{lt-ltb, le-ltb, eq-eqb, ne_eqb}
use Rattle.route_line.specs.Line.{named}
use borrow.Author.Rules.{rules}
use Rattle.route_line.proofs.named.Goals as goal

pub returns-then-place-name : goal.returns-then-place-name
unfolding named
returns-then-place-name c = rw (le-ltb _ _ c.if-place-name.true)

pub returns-then-name-place : goal.returns-then-name-place
unfolding named
returns-then-name-place c = rw (lt-ltb _ _ c.if-place-name.false, ne_eqb _ _ c.if-name-place.true)

pub returns-then-place-name-2 : goal.returns-then-place-name-2
unfolding named
returns-then-place-name-2 c = rw (lt-ltb _ _ c.if-place-name.false, eq-eqb _ _ c.if-name-place.false, eq-eqb _ _ c.if-place-name-2.true)

pub returns : goal.returns
unfolding named
returns c = rw (lt-ltb _ _ c.if-place-name.false, eq-eqb _ _ c.if-name-place.false, ne_eqb _ _ c.if-place-name-2.false)
