-- The pattern of a place is that of k / 2^24, exactly: a number of units of 2^-149, no sign, nothing rounded. Assumes nothing.
use mathlib.Core.Path.{◌≡◌, refl, sym, ap, ◌∙◌}
use mathlib.Core.Bool.{Bool, true, false, cond}
use Prim.Native.Nat.{ℕ, zero, suc, ◌+◌, ◌-◌, ◌*◌, ◌/◌, ◌%◌, ◌^◌, ◌≤◌, ◌<◌}
use native.Mathlib.Omega.{arith}
use native.Mathlib.Nat.{pow-succ', mul_comm, mul_assoc}
use borrow.Author.Tests.{ltb-true, ltb-false, eqb-true, eqb-false}
use lib.Dec.{eqb, ltb, leb}
use Rattle.grid.specs.Units.{field, digits, size, negative}
use Rattle.grid.specs.Grid.{unit}
use Rattle.places.specs.Place.{pattern_from, place_bits}

-- a significand of 24 digits under an exponent's field
size_of : (e t : ℕ) → e < 150 → t < 8388608 → size ((e + 1) * 8388608 + t) ≡ (8388608 + t) * 2 ^ e
unfolding size
size_of e t small low =
    let b = (e + 1) * 8388608 + t in
    let f : field b ≡ suc e = omega arith in
    let d : b % 8388608 ≡ t = omega arith in
    let g : suc e - 1 ≡ e = omega arith in
    rw (f, d, g)

-- one doubling more
shift : (m n : ℕ) → 2 * m * 2 ^ n ≡ m * 2 ^ suc n
shift m n = rw (pow-succ' 2 n, mul_comm 2 m) (mul_assoc m 2 (2 ^ n))

either : (b : Bool) (x y z : ℕ) → (b ≡ true → size x ≡ z) → (b ≡ false → size y ≡ z) → size (cond b x y) ≡ z
either true x y z h k = h refl
either false x y z h k = k refl

-- a significand with its 24 digits
long : (e m : ℕ) → e < 150 → 8388608 ≤ m → m < 16777216 → size (e * 8388608 + m) ≡ m * 2 ^ e
long e m small high low =
    let t = m - 8388608 in
    let b : e * 8388608 + m ≡ (e + 1) * 8388608 + t = omega arith in
    let whole : 8388608 + t ≡ m = omega arith in
    rw b (size_of e t small (omega arith) ∙ ap (λ (x : ℕ). x * 2 ^ e) whole)

-- m doubled until it has them: m times 2 ^ left of what the last place is worth
pattern-size : (left m : ℕ) → left ≤ 23 → m < 16777216 → 8388608 ≤ m * 2 ^ left → size (pattern_from left m) ≡ m * 2 ^ (102 + left)
unfolding pattern_from
pattern-size zero m few low high = long 102 m (omega arith) (omega (arith, high)) low
pattern-size (suc left) m few low high =
    let exponent : 102 + suc left ≡ suc (102 + left) = omega arith in
    let again : suc (102 + left) ≡ 103 + left = omega arith in
    rw exponent (either (ltb m 8388608) (pattern_from left (2 * m)) ((103 + left) * 8388608 + m) (m * 2 ^ suc (102 + left))
    (λ e. pattern-size left (2 * m) (omega arith) (omega (arith, ltb-true m 8388608 e)) (rw (shift m left) high) ∙ shift m (102 + left))
    (λ e. long (103 + left) m (omega arith) (ltb-false m 8388608 e) low ∙ ap (λ (x : ℕ). m * 2 ^ x) (sym again)))

-- every place before the end has 24 digits after 23 doublings, but for 0
enough : (k : ℕ) → 0 < k → 8388608 ≤ k * 2 ^ 23
enough k some = omega arith

positive : (k : ℕ) → (k ≡ 0 → ⊥) → 0 < k
positive k some = omega (arith, some)

-- ---- the pattern of a place is worth that many 2^24-ths of 1, and has no sign
nothing : size 0 ≡ 0 * 2 ^ 125
unfolding size
nothing = refl

all : size 1065353216 ≡ 16777216 * 2 ^ 125
unfolding size
all = refl

worth : (k : ℕ) → k ≤ 16777216 → size (place_bits k) ≡ k * 2 ^ 125
unfolding place_bits
worth k on =
    either (eqb k 0) 0 (cond (ltb k 16777216) (pattern_from 23 k) 1065353216) (k * 2 ^ 125)
    (λ e. nothing ∙ ap (λ (x : ℕ). x * 2 ^ 125) (sym (eqb-true k 0 e)))
    (λ some. either (ltb k 16777216) (pattern_from 23 k) 1065353216 (k * 2 ^ 125)
    (λ e. pattern-size 23 k (omega arith) (ltb-true k 16777216 e) (enough k (positive k (eqb-false k 0 some))))
    (λ e. let end : k ≡ 16777216 = omega (arith, ltb-false k 16777216 e) in all ∙ ap (λ (x : ℕ). x * 2 ^ 125) (sym end)))

pub place-exact : (k : ℕ) → k ≤ 16777216 → size (place_bits k) * 16777216 ≡ k * unit
unfolding unit
place-exact k on = rw (worth k on) (mul_assoc k (2 ^ 125) 16777216)
