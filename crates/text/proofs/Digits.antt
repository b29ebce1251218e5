-- The decimal digits of `io` are those of the sheet, and at most twenty; hexadecimal digits in two halves. Assumes nothing.
use mathlib.Core.Path.{◌≡◌, refl, sym, ap, ◌∙◌}
use mathlib.Core.Bool.{Bool, true, false}
use mathlib.Core.List.{List, [], ◌∷◌, ◌++◌, append_assoc, append-nil}
use Prim.Native.Nat.{ℕ, zero, suc, ◌+◌, ◌*◌, ◌-◌, ◌/◌, ◌%◌, ◌^◌, ◌≤◌, ◌<◌}
use native.Mathlib.Omega.{arith}
use native.Mathlib.Nat.{mul_assoc, pow-suc, one-le-pow, pow-le-pow_right}
use borrow.Author.Tests.{lt-ltb, le-ltb, leb-true, leb-false}
use lib.Dec.{leb}
use native.Mathlib.Numerals.{add-one}
use lib.ListN.{length, take, drop, set}
use Rattle.std.proofs.lemmas.List.{drop-set}
use Rattle.text.specs.Put.{hex, wide_hex}
use Rattle.io.specs.Digits.{last_digits, IsDigitCount}
use Rattle.model.specs.Text.{decimal_by, decimal, capital, hex_by}

-- k + 1 digits, the fewest, of a number that may have j + 1
digits-by : (j k n : ℕ) → k ≤ j → n < 10 ^ suc k → (0 < k → 10 ^ k ≤ n) → last_digits 10 (suc k) n ≡ decimal_by (suc j) n
unfolding decimal_by
digits-by j zero n within below above =
    let small : n < 10 = below in
    let same : n % 10 ≡ n = omega arith in
    simp (same, lt-ltb n 10 small)
digits-by zero (suc k) n within below above = absurd (omega (arith, within))
digits-by (suc j) (suc k) n within below above =
    let most : 10 ^ suc k ≤ n = above (omega arith) in
    let large : 10 ≤ n = omega (arith, one-le-pow k 10 (omega arith)) in
    let digit : n % 10 < 10 = omega arith in
    let ih : last_digits 10 (suc k) (n / 10) ≡ decimal_by (suc j) (n / 10) = digits-by j k (n / 10) (omega arith) (omega arith) (λ h. omega arith) in
    simp (le-ltb n 10 large, lt-ltb (n % 10) 10 digit) (ap (λ (l : List ℕ). l ++ ((48 + n % 10) ∷ [])) ih)

pub one-digit : (n : ℕ) → n < 10 → decimal n ≡ (48 + n) ∷ []
unfolding decimal_by
one-digit n small = simp (lt-ltb n 10 small)

pub fewest-digits : (k n : ℕ) → IsDigitCount 10 1 n k → k ≤ 20 → last_digits 10 k n ≡ decimal n
fewest-digits zero n few within = absurd (omega (arith, few.0))
fewest-digits (suc k) n few within =
    let one_less : suc k - 1 ≡ k = omega arith in
    digits-by 19 k n (omega arith) few.1 (λ h. rw one_less at (few.2 (omega (arith, h))))

pub at-most-twenty : (k n : ℕ) → IsDigitCount 10 1 n k → n < 18446744073709551616 → k ≤ 20
at-most-twenty k n few fits = go (leb k 20) refl
  where
    go : (short : Bool) → leb k 20 ≡ short → k ≤ 20
    go true e = leb-true k 20 e
    go false e =
        let long : 20 < k = leb-false k 20 e in
        let large : 10 ^ 20 ≤ 10 ^ (k - 1) = pow-le-pow_right {n = 10} (omega arith) {i = 20} {j = k - 1} (omega arith) in
        absurd (omega (arith, few.2 (omega arith)))

-- the last digits of n, which are l's, and j before them, which are h's
parts : (j k n h l : ℕ) → n ≡ h * 16 ^ k + l → l < 16 ^ k → hex_by (k + j) n ≡ hex_by j h ++ hex_by k l
unfolding hex_by
parts j zero n h l e below =
    let same : n ≡ h = omega (arith, e, below) in
    let count : 0 + j ≡ j = omega arith in
    ap (λ (m : ℕ). hex_by m n) count ∙ ap (hex_by j) same ∙ sym (append-nil (hex_by j h))
parts j (suc k) n h l e below =
    let count : suc k + j ≡ suc (k + j) = omega arith in
    let more : h * 16 ^ suc k ≡ h * 16 ^ k * 16 = ap (λ (x : ℕ). h * x) (pow-suc 16 k) ∙ sym (mul_assoc h (16 ^ k) 16) in
    let before : n / 16 ≡ h * 16 ^ k + l / 16 = omega (arith, e, more) in
    let last : n % 16 ≡ l % 16 = omega (arith, e, more) in
    ap (λ (m : ℕ). hex_by m n) count
    ∙ rw (parts j k (n / 16) h (l / 16) before (omega (arith, below)), last) (append_assoc (hex_by j h) (hex_by k (l / 16)) (capital (l % 16) ∷ []))

-- sixteen digits are the eight of the upper half and the eight of the lower, and a byte after the upper half's is not among them
pub halves : (n end : ℕ) → wide_hex n end ≡ take 8 (hex (n / 4294967296) end) ++ hex (n % 4294967296) end
unfolding hex_by
halves n end =
    ap (λ (l : List ℕ). l ++ (end ∷ [])) (parts 8 8 n (n / 4294967296) (n % 4294967296) (omega arith) (omega arith))
    ∙ append_assoc (hex_by 8 (n / 4294967296)) (hex_by 8 (n % 4294967296)) (end ∷ [])

-- a digit more in place k, before those that stand behind it
pub hex-step : (l : List ℕ) (k n x : ℕ) → k < length l → x ≡ capital (n % 16) → hex_by k (n / 16) ++ drop k (set l k x) ≡ hex_by (suc k) n ++ drop (suc k) l
unfolding hex_by
hex-step l k n x h e = rw (drop-set l k x h, e, add-one) (sym (append_assoc (hex_by k (n / 16)) (capital (n % 16) ∷ []) (drop (suc k) l)))
