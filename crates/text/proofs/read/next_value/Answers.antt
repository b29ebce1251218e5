-- `text::read::next_value` meets its contract: a digit more is at most 16 times as much and does not overflow. Assumes nothing.
use Prim.Native.Nat.{ℕ, ◌*◌, ◌≤◌, ◌<◌}
use native.Mathlib.Omega.{arith}
use native.Mathlib.Nat.{mul-le-mul}
use borrow.Author.Tests.{lt-ltb, le-ltb}
use borrow.Author.Rules.{rules}
use Rattle.text.proofs.ReadBack.{hex-most}
use Rattle.text.proofs.read.next_value.Goals as goal

most : (v b : ℕ) → v < 4294967296 → b ≤ 16 → v * b ≤ 4294967296 * 16
most v b small base = mul-le-mul {n₁ = v} {m₁ = b} {n₂ = 4294967296} {m₂ = 16} (omega arith) base

pub returns-then-x-lt48 : goal.returns-then-x-lt48
returns-then-x-lt48 c = rw (lt-ltb _ _ c.if-x-lt48.true)

pub overflow_mul-result : goal.overflow_mul-result
overflow_mul-result c = omega (arith, most c.args.value c.base_at.result (search rules) c.base_at.ensures.1)

pub overflow_add-result : goal.overflow_add-result
overflow_add-result c = let b = c.base_at in
    let a = c.args in
    omega (arith, most a.value b.result (search rules) b.ensures.1, hex-most a.x, c.hex_digit.ensures)

pub returns : goal.returns
returns c = rw (← c.hex_digit.ensures, ← c.base_at.ensures.0, le-ltb _ _ c.if-x-lt48.false)
