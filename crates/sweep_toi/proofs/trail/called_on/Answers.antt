-- `trail::called_on` meets its contract: twenty times what was counted more fits. Assumes nothing.
use Prim.Native.Nat.{ℕ, ◌-◌, ◌≤◌}
use native.Mathlib.Nat.{mul-le-mul}
use native.Mathlib.Omega.{arith}
use Rattle.sweep_toi.proofs.trail.called_on.Goals as goal

less : {n : ℕ} (m k : ℕ) → m ≤ n → m - k ≤ n
less m k h = omega (arith, h)

pub overflow_mul-result : goal.overflow_mul-result
overflow_mul-result c =
    let h = c.requires.distance_calls_bound in
    omega (arith, mul-le-mul h.3 (less _ c.args.start.distance_calls h.0))

pub overflow_add-result : goal.overflow_add-result
overflow_add-result c =
    let h = c.requires.distance_calls_bound in
    omega (arith, h.0, mul-le-mul h.3 (less _ c.args.start.distance_calls h.0))

pub overflow_mul-result-2 : goal.overflow_mul-result-2
overflow_mul-result-2 c =
    let h = c.requires.distance_calls_bound in
    omega (arith, mul-le-mul h.3 (less _ c.args.start.searches h.1))

pub overflow_add-result-2 : goal.overflow_add-result-2
overflow_add-result-2 c =
    let h = c.requires.distance_calls_bound in
    omega (arith, h.1, mul-le-mul h.3 (less _ c.args.start.searches h.1))

pub overflow_mul-result-3 : goal.overflow_mul-result-3
overflow_mul-result-3 c =
    let h = c.requires.distance_calls_bound in
    omega (arith, mul-le-mul h.3 (less _ c.args.start.root_steps h.2))

pub overflow_add-result-3 : goal.overflow_add-result-3
overflow_add-result-3 c =
    let h = c.requires.distance_calls_bound in
    omega (arith, h.2, mul-le-mul h.3 (less _ c.args.start.root_steps h.2))
