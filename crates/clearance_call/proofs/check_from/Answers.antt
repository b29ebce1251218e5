-- `check_from` meets its contract, by its test. Assumes nothing.
use Rattle.model.specs.Domain.{checked}
use Rattle.clearance_call.proofs.check_from.Goals as goal

pub returns-then-from-end : goal.returns-then-from-end
unfolding checked
returns-then-from-end c = simp c.if-from-end.true

pub returns-else-from-end : goal.returns-else-from-end
unfolding checked
returns-else-from-end c = simp c.if-from-end.false
