-- `places::place_bits` meets its contract, case by case. Assumes nothing.
use borrow.Author.Rules.{rules}
use borrow.Author.Tests.{eq-eqb, ne_eqb, lt-ltb, le-ltb}
use Rattle.places.specs.Place.{place_bits}
use Rattle.places.proofs.place_bits.Goals as goal

pub returns-then-k-eq0 : goal.returns-then-k-eq0
unfolding place_bits
returns-then-k-eq0 c = rw (eq-eqb _ _ c.if-k-eq0.true)

pub returns-then-k-lt16777216 : goal.returns-then-k-lt16777216
unfolding place_bits
returns-then-k-lt16777216 c = rw (ne_eqb _ _ c.if-k-eq0.false, lt-ltb _ _ c.if-k-lt16777216.true) c.pattern.ensures

pub returns : goal.returns
unfolding place_bits
returns c = rw (ne_eqb _ _ c.if-k-eq0.false, le-ltb _ _ c.if-k-lt16777216.false)
