-- `bits::from_bits` meets its contract: a magnitude above the infinity's is a NaN. Assumes nothing.
use mathlib.Core.Path.{sym}
use lib.Ieee.{binary32, div, of_bits}
use Rattle.model.proofs.Bits.{pattern-nan, pattern-not-nan}
use Rattle.ground.proofs.bits.from_bits.Goals as goal

pub float_from_bits-result : goal.float_from_bits-result
float_from_bits-result c = pattern-not-nan binary32 _ c.if-magnitude-gt2139095040.false

pub returns-then-magnitude-gt2139095040 : goal.returns-then-magnitude-gt2139095040
unfolding div of_bits
returns-then-magnitude-gt2139095040 c = sym (pattern-nan binary32 c.args.bits c.if-magnitude-gt2139095040.true)
