-- `route_read::outlines_after` meets its contract, by its test. Assumes nothing.
use borrow.Author.Rules.{rules}
use Rattle.route_read.proofs.outlines_after.Goals as goal

pub returns-then-is_still : goal.returns-then-is_still
returns-then-is_still c = rw (← c.is_still.ensures, c.if-is_still.true)
    c.keep_length.ensures
