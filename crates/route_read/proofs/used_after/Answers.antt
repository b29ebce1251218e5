-- `route_read::used_after` meets its contract, by its test. Assumes nothing.
use mathlib.Core.Path.{refl}
use borrow.Author.Rules.{rules}
use Rattle.route_read.proofs.used_after.Goals as goal

pub returns-then-before-line : goal.returns-then-before-line
returns-then-before-line c = rw (c.if-before-line.true, ← c.from_bits-x.ensures)
    c.keep_number.ensures

pub returns : goal.returns
returns c = rw c.if-before-line.false (refl, refl)
