-- Written by tests/written/wide.py from ground, in f64.
-- `bits::from_bits` meets its contract: a magnitude above the infinity's is a NaN. Assumes nothing.
use mathlib.Core.Path.{sym}
use lib.Ieee.{binary64, div, of_bits}
use Rattle.model.proofs.Bits.{pattern-nan, pattern-not-nan}
use Rattle.ground64.proofs.bits.from_bits.Goals as goal

pub float_from_bits-result : goal.float_from_bits-result
float_from_bits-result c = pattern-not-nan binary64 _ c.if-magnitude-gt9218868437227405312.false

pub returns-then-magnitude-gt9218868437227405312 : goal.returns-then-magnitude-gt9218868437227405312
unfolding div of_bits
returns-then-magnitude-gt9218868437227405312 c = sym (pattern-nan binary64 c.args.bits c.if-magnitude-gt9218868437227405312.true)
