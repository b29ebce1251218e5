-- The products are atoms; 2^29 times the weights comes to 2^57. Assumes nothing.
use native.Mathlib.Omega.{arith}
use Rattle.integers.specs.Signed.{◌⊠◌}
use Rattle.piece_check.proofs.touch.weighted_part.Goals as goal

pub returns-then-q-lt536870912 : goal.returns-then-q-lt536870912
unfolding ◌⊠◌
returns-then-q-lt536870912 c = record { cut = record { upper = omega arith; lower = omega arith }; small = omega arith }

pub returns-else-q-lt536870912 : goal.returns-else-q-lt536870912
unfolding ◌⊠◌
returns-else-q-lt536870912 c = record { cut = record { upper = omega arith; lower = omega arith }; small = omega arith }
