-- `foldflake::tell_route::put_end` meets its contract: the list has room for the floats, and the place is written behind them. Assumes nothing.
use mathlib.Core.Path.{◌∙◌}
use borrow.Author.Tests.{eq-eqb}
use borrow.Author.Rules.{rules}
use Rattle.foldflake.proofs.tell_route.put_end.Goals as goal

pub returns : goal.returns
returns c = let placed = c.put_place in
    let number = c.end_number-number in
    let written = c.put_contact in
    let start = c.before.before.before.before.before.before.before.before.before.before.before in
    (placed.ensures.0 ∙ number.ensures, rw (eq-eqb _ _ start.requires.0) at written.ensures, placed.ensures.1)
