-- `route_read::next_line` meets its contract, by its tests. Assumes nothing.
use borrow.Author.Rules.{rules}
use borrow.Author.Tests.{lt-ltb, le-ltb}
use Rattle.route_read.proofs.next_line.Goals as goal

pub returns-then-lines-lt-COUNT_LIMIT : goal.returns-then-lines-lt-COUNT_LIMIT
returns-then-lines-lt-COUNT_LIMIT c = simp (lt-ltb _ _ c.if-lines-lt-COUNT_LIMIT.true)

pub returns-else-lines-lt-COUNT_LIMIT : goal.returns-else-lines-lt-COUNT_LIMIT
returns-else-lines-lt-COUNT_LIMIT c = simp (le-ltb _ _ c.if-lines-lt-COUNT_LIMIT.false)
