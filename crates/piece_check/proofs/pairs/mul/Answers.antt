-- `pairs::mul` meets its contract: the one place where a product is bounded. Assumes nothing.
use native.Mathlib.Nat.{mul-le-mul}
use native.Mathlib.Omega.{arith}
use Rattle.integers.specs.Signed.{◌⊠◌}
use Rattle.piece_check.proofs.pairs.mul.Goals as goal

pub overflow_mul-result : goal.overflow_mul-result
overflow_mul-result c = omega (arith, mul-le-mul c.requires.left c.requires.right)

pub overflow_mul-result-2 : goal.overflow_mul-result-2
overflow_mul-result-2 c = omega (arith, mul-le-mul c.requires.left c.requires.right)

pub overflow_add-result : goal.overflow_add-result
overflow_add-result c = omega (arith, mul-le-mul c.requires.left c.requires.right)

pub overflow_mul-result-3 : goal.overflow_mul-result-3
overflow_mul-result-3 c = omega (
  arith,
  mul-le-mul c.requires.left
      c.requires.right,
)

pub overflow_mul-result-4 : goal.overflow_mul-result-4
overflow_mul-result-4 c = omega (
  arith,
  mul-le-mul c.requires.left
      c.requires.right,
)

pub overflow_add-result-2 : goal.overflow_add-result-2
overflow_add-result-2 c = omega (
  arith,
  mul-le-mul c.requires.left
      c.requires.right,
)

pub returns : goal.returns
unfolding ◌⊠◌
returns c = record {
  is = omega arith;
  small = omega (
    arith,
    mul-le-mul c.requires.left
        c.requires.right,
  );
}
