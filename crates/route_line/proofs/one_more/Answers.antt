-- `route_line::one_more` meets its contract, by its tests. Assumes nothing.
use borrow.Author.Rules.{rules}
use borrow.Author.Tests.{lt-ltb, le-ltb}
use Rattle.route_line.proofs.one_more.Goals as goal

pub returns-then-count-lt-MOST_WORDS : goal.returns-then-count-lt-MOST_WORDS
returns-then-count-lt-MOST_WORDS c = simp (lt-ltb _ _ c.if-count-lt-MOST_WORDS.true)

pub returns-else-count-lt-MOST_WORDS : goal.returns-else-count-lt-MOST_WORDS
returns-else-count-lt-MOST_WORDS c = simp (le-ltb _ _ c.if-count-lt-MOST_WORDS.false)
