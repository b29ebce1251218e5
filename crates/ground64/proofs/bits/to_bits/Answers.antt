-- Written by tests/written/wide.py from ground, in f64.
-- `bits::to_bits` meets its contract: what differs from itself is NaN. Assumes nothing.
use lib.Ieee.{to_bits}
use Rattle.model.proofs.Bits.{differs-nan, not-nan}
use Rattle.ground64.proofs.bits.to_bits.Goals as goal

pub float_to_bits-result : goal.float_to_bits-result
float_to_bits-result c = not-nan _ c.if-x.false

pub returns-then-x : goal.returns-then-x
unfolding to_bits
returns-then-x c = rw (differs-nan _ c.if-x.true)
