-- The one product. Assumes nothing.
use mathlib.Core.Path.{refl}
use native.Mathlib.Nat.{mul-le-mul, mul-le-mul_left}
use native.Mathlib.Omega.{arith}
use Rattle.piece_check.proofs.touch.share.Goals as goal

pub overflow_mul-result : goal.overflow_mul-result
overflow_mul-result c = omega (arith, mul-le-mul c.requires.0 c.requires.1)

pub returns : goal.returns
returns c = (refl, omega (arith, mul-le-mul_left c.args.w c.requires.1))
