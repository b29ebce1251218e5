-- Written by tests/written/wide.py from ground, in f64.
-- `scalar::max` meets its contract, by its two tests. Assumes nothing.
use Rattle.model.proofs.Bits.{differs-is-nan, same-not-nan}
use Rattle.ground64.proofs.scalar.max.Goals as goal

pub returns-then-x-y : goal.returns-then-x-y
returns-then-x-y c = simp c.if-x-y.true

pub returns-then-x : goal.returns-then-x
returns-then-x c = simp (c.if-x-y.false, differs-is-nan _ c.if-x.true)

pub returns-else-x : goal.returns-else-x
returns-else-x c = simp (c.if-x-y.false, same-not-nan _ c.if-x.false)
