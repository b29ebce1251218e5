-- Written by tests/written/wide.py from domain, in f64.
-- `check_slop` meets its contract, by its test. Assumes nothing.
use Rattle.model.specs.Domain.{checked}
use Rattle.domain64.proofs.check_slop.Goals as goal

pub returns-then-x : goal.returns-then-x
unfolding checked
returns-then-x c = simp c.if-x.true

pub returns-else-x : goal.returns-else-x
unfolding checked
returns-else-x c = simp c.if-x.false
