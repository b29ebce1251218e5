-- The fraction that is told for a place is that place, exactly: k / 2^24, in units of 2^-149. Assumes nothing.
use mathlib.Core.Path.{◌≡◌, refl, sym, ap, ◌∙◌, subst}
use mathlib.Core.Bool.{Bool, true, false, not, cond}
use Prim.Native.Nat.{ℕ, zero, suc, ◌+◌, ◌*◌, ◌%◌, ◌≤◌, ◌<◌}
use native.Mathlib.Omega.{arith}
use borrow.Author.Tests.{le-ltb, lt-leb, ltb-true}
use lib.Dec.{T, eqb, ltb}
use lib.Ieee.{Float, binary32, of_bits, to_bits, is_nan}
use lib.Ieee.Bits.{to_bits-of_bits, nan_bits_is, nan_bits_above}
use Rattle.integers.specs.Signed.{of_nat, ◌⊠◌, ◌≃◌}
use Rattle.grid.specs.Units.{size}
use Rattle.grid.specs.Grid.{unit}
use Rattle.planned.specs.Planned.{worth_of}
use Rattle.places.specs.Place.{pattern_from, place_bits}
use Rattle.places.proofs.Exact.{place-exact}
use Rattle.clearance_lists.specs.Entry.{fraction_at}

-- no pattern of a place is above that of 1
of_two : (b : Bool) (x y : ℕ) → (b ≡ true → x ≤ 1065353216) → (b ≡ false → y ≤ 1065353216) → cond b x y ≤ 1065353216
of_two true x y h k = h refl
of_two false x y h k = k refl

pattern-small : (left m : ℕ) → left ≤ 23 → m < 16777216 → pattern_from left m ≤ 1065353216
unfolding pattern_from
pattern-small zero m few low = omega arith
pattern-small (suc left) m few low = of_two (ltb m 8388608) (pattern_from left (2 * m)) ((103 + left) * 8388608 + m)
    (λ e. pattern-small left (2 * m) (omega arith) (omega (arith, ltb-true m 8388608 e))) (λ e. omega arith)

bits_small : (k : ℕ) → place_bits k ≤ 1065353216
unfolding place_bits
bits_small k = of_two (eqb k 0) 0 (cond (ltb k 16777216) (pattern_from 23 k) 1065353216) (λ e. omega arith)
    (λ e. of_two (ltb k 16777216) (pattern_from 23 k) 1065353216 (λ f. pattern-small 23 k (omega arith) (ltb-true k 16777216 f)) (λ f. omega arith))

-- such a pattern is written for what is read from it
no_nan : (b : ℕ) → b ≤ 1065353216 → T (not (is_nan (of_bits binary32 b)))
no_nan b h =
    let e : is_nan (of_bits binary32 b) ≡ false
    = sym (nan_bits_is binary32 b) ∙ nan_bits_above binary32 b ∙ le-ltb 2139095040 (b % 2147483648) (omega arith) in
    subst (λ (t : Bool). T (not t)) (sym e) tt

read_back : (b : ℕ) → b ≤ 1065353216 → to_bits binary32 (of_bits binary32 b) ≡ b
read_back b h = to_bits-of_bits binary32 b (omega arith) (no_nan b h)

same : (s b k : ℕ) → s ≡ b → b ≤ 1065353216 → size b * 16777216 ≡ k * unit → (x : Float) → to_bits binary32 x ≡ s
    → worth_of x ⊠ of_nat 16777216 ≃ of_nat k ⊠ of_nat unit
unfolding ◌⊠◌
same s b k e h p x f = rw (f ∙ e, lt-leb 2147483648 b (omega arith)) (omega (arith, p))

pub fraction-exact : (k : ℕ) → k ≤ 16777216 → worth_of (fraction_at k) ⊠ of_nat 16777216 ≃ of_nat k ⊠ of_nat unit
fraction-exact k h = same (place_bits k) (place_bits k) k refl (bits_small k) (place-exact k h) (fraction_at k) (read_back (place_bits k) (bits_small k))
