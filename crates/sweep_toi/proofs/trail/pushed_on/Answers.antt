-- `trail::pushed_on` meets its contract: eight times fifty more fit. Assumes nothing.
use native.Mathlib.Nat.{mul-le-mul}
use native.Mathlib.Omega.{arith}
use mathlib.Core.Path.{refl}
use Rattle.sweep_toi.proofs.Rounds.{same-counts}
use Rattle.sweep_toi.proofs.trail.pushed_on.Goals as goal

pub overflow_mul-result : goal.overflow_mul-result
overflow_mul-result c = let h = c.requires in omega (arith, mul-le-mul h.2 h.3)

pub overflow_add-result-2 : goal.overflow_add-result-2
overflow_add-result-2 c = let h = c.requires in omega (arith, h.1, mul-le-mul h.2 h.3)

pub returns : goal.returns
returns c = same-counts (omega arith) (omega arith) refl
