-- `text::read::base_at` meets its contract, by its test. Assumes nothing.
use borrow.Author.Tests.{lt-ltb, le-ltb}
use borrow.Author.Rules.{rules}
use Rattle.text.proofs.read.base_at.Goals as goal

pub returns-then-k-decimals : goal.returns-then-k-decimals
returns-then-k-decimals c = rw (lt-ltb _ _ c.if-k-decimals.true) (search rules)

pub returns-else-k-decimals : goal.returns-else-k-decimals
returns-else-k-decimals c = rw (le-ltb _ _ c.if-k-decimals.false) (search rules)
