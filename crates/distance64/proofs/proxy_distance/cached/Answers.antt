-- Written by tests/written/wide.py from distance, in f64.
-- `proxy_distance::cached` meets its contract, by its test and what its callees ensure. Assumes nothing.
use borrow.Author.Tests.{lt-ltb, le-ltb}
use Rattle.distance64.proofs.proxy_distance.cached.Goals as goal

pub returns-then-i-cache : goal.returns-then-i-cache
returns-then-i-cache c = simp (lt-ltb _ _ c.if-i-cache.true, c.vertex.ensures)

pub returns-else-i-cache : goal.returns-else-i-cache
returns-else-i-cache c = simp (le-ltb _ _ c.if-i-cache.false, c.blank.ensures)
