-- A turn of the loop, and its two ends. Assumes nothing.
use mathlib.Core.Path.{◌≡◌, refl}
use Prim.Native.Nat.{ℕ, zero, suc, ◌+◌, ◌-◌, ◌*◌, ◌≤◌, ◌<◌}
use native.Mathlib.Omega.{arith}
use borrow.Author.Tests.{lt-ltb, le-ltb}
use Rattle.places.specs.Place.{pattern_from}

pub doubled : (left m : ℕ) → 0 < left → m < 8388608 → pattern_from left m ≡ pattern_from (left - 1) (2 * m)
unfolding pattern_from
doubled zero m some low = absurd (omega arith)
doubled (suc left) m some low = let e : suc left - 1 ≡ left = omega arith in rw (lt-ltb m 8388608 low, e)

pub long-enough : (left m : ℕ) → 0 < left → 8388608 ≤ m → pattern_from left m ≡ (102 + left) * 8388608 + m
unfolding pattern_from
long-enough zero m some high = absurd (omega arith)
long-enough (suc left) m some high = rw (le-ltb m 8388608 high) (omega arith)

pub none_left : (left m : ℕ) → left ≤ 0 → pattern_from left m ≡ 102 * 8388608 + m
unfolding pattern_from
none_left zero m none = refl
none_left (suc left) m none = absurd (omega arith)
