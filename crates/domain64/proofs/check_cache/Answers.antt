-- Written by tests/written/wide.py from domain, in f64.
-- `check_cache` meets its contract, by its test. Assumes nothing.
use Rattle.model.specs.Domain.{checked}
use Rattle.domain64.proofs.check_cache.Goals as goal

pub returns-then-cache-pair : goal.returns-then-cache-pair
unfolding checked
returns-then-cache-pair c = simp c.if-cache-pair.true

pub returns-else-cache-pair : goal.returns-else-cache-pair
unfolding checked
returns-else-cache-pair c = simp c.if-cache-pair.false
