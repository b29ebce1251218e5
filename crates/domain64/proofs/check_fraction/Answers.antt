-- Written by tests/written/wide.py from domain, in f64.
-- `check_fraction` meets its contract, by its test. Assumes nothing.
use Rattle.model.specs.Domain.{checked}
use Rattle.domain64.proofs.check_fraction.Goals as goal

pub returns-then-t : goal.returns-then-t
unfolding checked
returns-then-t c = simp c.if-t.true

pub returns-else-t : goal.returns-else-t
unfolding checked
returns-else-t c = simp c.if-t.false
