-- `guess` makes no pattern of a NaN. Assumes nothing.
use Rattle.std.proofs.Common.{arith}
use lib.Ieee.{binary64}
use Rattle.model.proofs.Bits.{below-infinity}
use Rattle.root64.proofs.guess.Goals as goal

pub float_from_bits-y : goal.float_from_bits-y
float_from_bits-y c = below-infinity binary64 _ (omega arith)
