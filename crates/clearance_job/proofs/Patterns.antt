-- From what a number is worth to its pattern. Assumes nothing.
use mathlib.Core.Path.{◌≡◌, refl, sym, ap, ◌∙◌, subst}
use mathlib.Core.Logic.{◌⊎◌, inl, inr}
use mathlib.Core.Bool.{Bool, true, false}
use Prim.Native.Nat.{ℕ, zero, suc, ◌+◌, ◌-◌, ◌*◌, ◌/◌, ◌%◌, ◌^◌, ◌≤◌, ◌<◌}
use native.Mathlib.Nat.{mul-le-mul_left, mul-lt-mul_of_pos_right, lt_of_lt_of_le, lt_of_le_of_lt, le_trans, lt_irrefl, pow-succ'}
use native.Mathlib.Omega.{arith}
use borrow.Author.Tests.{le-leb, lt-leb}
use lib.Dec.{leb}
use lib.Pow.{pow_pos, pow_mono}
use Rattle.integers.specs.Signed.{Int, 0Int, of_nat, ◌≼◌}
use Rattle.integers.specs.Whole.{signed}
use Rattle.integers.proofs.Signed.{le-or-lt}
use Rattle.grid.specs.Units.{field, digits, size, value}
use Rattle.grid.specs.Grid.{unit}

-- a pattern with a field
size_of : (b k : ℕ) → field b ≡ suc k → size b ≡ (8388608 + b % 8388608) * 2 ^ k
unfolding size
size_of b k f = let g : suc k - 1 ≡ k = omega arith in rw (f, g)

one_less : (b : ℕ) → 0 < field b → field b ≡ suc (field b - 1)
one_less b h = omega arith

-- a pattern above that of 2 ^ E times the smallest number with a field is worth more
larger : (E b k t : ℕ) → (E < k) ⊎ ((k ≡ E) × (0 < t)) → 8388608 * 2 ^ E < (8388608 + t) * 2 ^ k
larger E b k t (inl h) =
    let p = pow_pos E in
    let q : 2 ^ suc E ≤ 2 ^ k = pow_mono {j = k} h in
    let r : 2 * 2 ^ E ≤ 2 ^ k = subst (λ (n : ℕ). n ≤ 2 ^ k) (pow-succ' 2 E) q in
    omega (arith, p, mul-le-mul_left 8388608 r, mul-le-mul_left (8388608 + t) r)
larger E b k t (inr h) = rw h.0 (mul-lt-mul_of_pos_right (omega (arith, h.1)) (pow_pos E))

above : (E b : ℕ) → (E + 1) * 8388608 < b % 2147483648 → 8388608 * 2 ^ E < size b
above E b h =
    let k = field b - 1 in
    subst (λ (n : ℕ). 8388608 * 2 ^ E < n) (sym (size_of b k (one_less b (omega arith)))) (larger E b k (b % 8388608) (go (le-or-lt k E)))
  where
    go : (field b - 1 ≤ E) ⊎ (E < field b - 1) → (E < field b - 1) ⊎ ((field b - 1 ≡ E) × (0 < b % 8388608))
    go (inl l) = inr (omega arith, omega arith)
    go (inr l) = inl l

pub pattern-most : (E b : ℕ) → size b ≤ 8388608 * 2 ^ E → b % 2147483648 ≤ (E + 1) * 8388608
pattern-most E b h = go (le-or-lt (b % 2147483648) ((E + 1) * 8388608))
  where
    go : (b % 2147483648 ≤ (E + 1) * 8388608) ⊎ ((E + 1) * 8388608 < b % 2147483648) → b % 2147483648 ≤ (E + 1) * 8388608
    go (inl l) = l
    go (inr l) = absurd (lt_irrefl (size b) (lt_of_le_of_lt h (above E b l)))

-- a pattern that is worth nothing has no bit but the sign's
field-none : (b : ℕ) → field b ≡ 0 → size b ≡ b % 8388608 * 1
unfolding size
field-none b f = rw f refl

pub pattern-none : (b : ℕ) → size b ≤ 0 → b % 2147483648 ≡ 0
pattern-none b h = go (le-or-lt (field b) 0)
  where
    go : (field b ≤ 0) ⊎ (0 < field b) → b % 2147483648 ≡ 0
    go (inl l) = omega (arith, field-none b (omega arith))
    go (inr l) = absurd (omega (arith, size_of b (field b - 1) (one_less b l), mul-le-mul_left (8388608 + b % 8388608) (pow_pos (field b - 1))))

-- ---- by what it is worth
one-worth : unit ≡ 8388608 * 2 ^ 126
unfolding unit
one-worth = refl

pub fraction-pattern : (b : ℕ) → b < 4294967296 → (b ≡ 2147483648 → ⊥) → 0Int ≼ value b → value b ≼ of_nat unit → b ≤ 1065353216
fraction-pattern b small other least most = go (le-or-lt 2147483648 b)
  where
    go : (2147483648 ≤ b) ⊎ (b < 2147483648) → b ≤ 1065353216
    go (inl l) =
        let z : 0Int ≼ signed true (size b) = rw (le-leb 2147483648 b l) at least in
        absurd (other (omega (arith, pattern-none b (omega arith))))
    go (inr l) =
        let z : signed false (size b) ≼ of_nat unit = rw (lt-leb 2147483648 b l) at most in
        omega (arith, pattern-most 126 b (subst (λ (n : ℕ). size b ≤ n) one-worth (omega arith)))

pub fraction-worth : (b : ℕ) → b ≤ 1065353216 → size b ≤ unit → value b ≼ of_nat unit
fraction-worth b h l = rw (lt-leb 2147483648 b (omega arith)) (omega arith)
