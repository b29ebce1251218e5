-- `corners::least_along` meets its contract. Assumes nothing.
use native.Mathlib.Omega.{arith}
use Rattle.integers.specs.Signed.{◌⊠◌}
use Rattle.piece_check.proofs.corners.least_along.Goals as goal

pub returns : goal.returns
unfolding ◌⊠◌
returns c = record { all = λ k l. omega (arith, c.most_along-most.ensures.all k l); small = omega arith }
