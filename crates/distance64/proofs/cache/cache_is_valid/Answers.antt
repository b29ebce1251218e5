-- Written by tests/written/wide.py from distance, in f64.
-- `cache::cache_is_valid` meets its contract, by its test and what `all_below` ensures. Assumes nothing.
use borrow.Author.Tests.{le-leb, lt-leb}
use Rattle.distance64.proofs.cache.cache_is_valid.Goals as goal

pub returns-then-count-gt3 : goal.returns-then-count-gt3
returns-then-count-gt3 c = simp (lt-leb _ _ c.if-count-gt3.true)

pub returns : goal.returns
returns c = simp (le-leb _ _ c.if-count-gt3.false, c.all_below.ensures, c.all_below-2.ensures)
