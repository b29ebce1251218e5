-- Written by tests/written/wide.py from sweep_toi, in f64.
-- `bracket::narrowed` meets its contract, by its test. Assumes nothing.
use Rattle.sweep_toi64.proofs.bracket.narrowed.Goals as goal

pub returns-then-s-task : goal.returns-then-s-task
returns-then-s-task c = rw c.if-s-task.true

pub returns-else-s-task : goal.returns-else-s-task
returns-else-s-task c = rw c.if-s-task.false
