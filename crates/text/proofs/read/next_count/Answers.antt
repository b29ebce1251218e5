-- `text::read::next_count` meets its contract, by its test. Assumes nothing.
use borrow.Author.Tests.{lt-ltb, le-ltb}
use borrow.Author.Rules.{rules}
use Rattle.text.proofs.read.next_count.Goals as goal

pub returns-then-x-lt48 : goal.returns-then-x-lt48
returns-then-x-lt48 c = rw (lt-ltb _ _ c.if-x-lt48.true) (search rules)

pub returns-else-x-lt48 : goal.returns-else-x-lt48
returns-else-x-lt48 c = rw (le-ltb _ _ c.if-x-lt48.false) (search rules)
