-- Written by tests/written/wide.py from ground, in f64.
-- `rotation::reciprocal_or_zero` meets its contract, by its test. Assumes nothing.
use Rattle.ground64.proofs.rotation.reciprocal_or_zero.Goals as goal

pub returns-then-m : goal.returns-then-m
returns-then-m c = simp c.if-m.true

pub returns-else-m : goal.returns-else-m
returns-else-m c = simp c.if-m.false
