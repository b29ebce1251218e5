-- A line read byte by byte, and that digits read back are the number that they were printed for. Assumes nothing.
use mathlib.Core.Path.{◌≡◌, refl, ◌∙◌}
use mathlib.Core.Bool.{Bool, true, false, cond}
use mathlib.Core.List.{List, [], ◌∷◌, ◌++◌}
use Prim.Native.Nat.{ℕ, zero, suc, ◌+◌, ◌-◌, ◌*◌, ◌/◌, ◌%◌, ◌^◌, ◌≤◌, ◌<◌}
use native.Mathlib.Omega.{arith}
use native.Mathlib.Numerals.{add-one}
use borrow.Author.Tests.{lt-ltb, le-ltb, ltb-true, ltb-false}
use lib.Dec.{ltb}
use lib.ListN.{length, drop, get_or, set}
use lib.Seq.{drop-cons}
use Rattle.model.specs.Text.{decimal_by, capital, hex_by}
use Rattle.text.specs.Read.{hex_digit, base_at, next_count, next_value, next_words, stored}

-- ---- the loop's turn and its end
pub stored_one : (d k v : ℕ) (words line : List ℕ) (i : ℕ) → i < length line →
    stored d k v words (drop i line)
    ≡ stored d (next_count (get_or line i 0) k) (next_value d (get_or line i 0) k v) (next_words (get_or line i 0) k v words) (drop (i + 1) line)
unfolding stored
stored_one d k v words line i inside = rw (drop-cons line i 0 inside, add-one i)

pub stored-none : (d k v : ℕ) (words line : List ℕ) (i : ℕ) → length line ≤ i → stored d k v words (drop i line) ≡ words
unfolding stored
stored-none d k v words line i past = rw (nothing i line past)
  where
    nothing : (i : ℕ) (l : List ℕ) → length l ≤ i → drop i l ≡ []
    nothing zero [] h = refl
    nothing (suc i) [] h = refl
    nothing zero (x ∷ l) h = absurd (omega (arith, h))
    nothing (suc i) (x ∷ l) h = nothing i l (omega (arith, h))

pub counted-one : (line : List ℕ) (i k : ℕ) → next_count (get_or line i 0) k ≤ k + 1
counted-one line i k = go (ltb (get_or line i 0) 48)
  where
    go : (b : Bool) → cond b (k + 1) k ≤ k + 1
    go true = omega arith
    go false = omega arith

-- ---- digits
-- each byte of a list is a digit, and the value after them all
unfoldable pub Digits : List ℕ → Type 0
Digits [] = Unit {0}
Digits (x ∷ xs) = (48 ≤ x) × Digits xs

unfoldable pub value_of : ℕ → ℕ → List ℕ → ℕ
value_of base v [] = v
value_of base v (x ∷ xs) = value_of base ((v * base + hex_digit x) % 2 ^ 32) xs

pub digits-then : (xs ys : List ℕ) → Digits xs → Digits ys → Digits (xs ++ ys)
unfolding Digits
digits-then [] ys h g = g
digits-then (x ∷ xs) ys h g = (h.0, digits-then xs ys h.1 g)

value-then : (base v : ℕ) (xs ys : List ℕ) → value_of base v (xs ++ ys) ≡ value_of base (value_of base v xs) ys
unfolding value_of
value-then base v [] ys = refl
value-then base v (x ∷ xs) ys = value-then base ((v * base + hex_digit x) % 2 ^ 32) xs ys

stored-digit : (d k v : ℕ) (words : List ℕ) (x : ℕ) (xs : List ℕ) → 48 ≤ x →
    stored d k v words (x ∷ xs) ≡ stored d k ((v * base_at d k + hex_digit x) % 2 ^ 32) words xs
unfolding stored
stored-digit d k v words x xs high = rw (le-ltb x 48 high)

stored-end : (d k v : ℕ) (words : List ℕ) (end : ℕ) (rest : List ℕ) → end < 48 → stored d k v words (end ∷ rest) ≡ stored d (k + 1) 0 (set words k v) rest
unfolding stored
stored-end d k v words end rest low = rw (lt-ltb end 48 low)

-- the byte after a number's digits stores it
pub stored-number : (d k v : ℕ) (words xs : List ℕ) (end : ℕ) (rest : List ℕ) → Digits xs → end < 48 →
    stored d k v words (xs ++ (end ∷ rest)) ≡ stored d (k + 1) 0 (set words k (value_of (base_at d k) v xs)) rest
unfolding stored Digits value_of
stored-number d k v words [] end rest h low = stored-end d k v words end rest low
stored-number d k v words (x ∷ xs) end rest h low =
    stored-digit d k v words x (xs ++ (end ∷ rest)) h.0 ∙ stored-number d k ((v * base_at d k + hex_digit x) % 2 ^ 32) words xs end rest h.1 low

-- ---- decimal
decimal_digit : (n : ℕ) → n < 10 → hex_digit (48 + n) ≡ n
decimal_digit n small =
    let least : 48 ≤ 48 + n = omega arith in
    let low : 48 + n < 58 = omega arith in
    let e : 48 + n - 48 ≡ n = omega arith in
    rw (le-ltb (48 + n) 48 least, lt-ltb (48 + n) 58 low) e

pub decimal-digits : (k n : ℕ) → Digits (decimal_by k n)
unfolding decimal_by Digits
decimal-digits zero n = tt
decimal-digits (suc k) n = go (ltb n 10) (decimal-digits k (n / 10))
  where
    go : (b : Bool) → Digits (decimal_by k (n / 10)) → Digits (cond b ((48 + n) ∷ []) (decimal_by k (n / 10) ++ ((48 + n % 10) ∷ [])))
    go true h = (omega arith, tt)
    go false h = digits-then (decimal_by k (n / 10)) ((48 + n % 10) ∷ []) h (omega arith, tt)

pub decimal-value : (k n : ℕ) → n < 10 ^ k → n < 4294967296 → value_of 10 0 (decimal_by k n) ≡ n
unfolding decimal_by value_of
decimal-value zero n below fits = omega (arith, below)
decimal-value (suc k) n below fits = go (ltb n 10) refl (decimal-value k (n / 10) (omega (arith, below)) (omega arith))
  where
    go : (b : Bool) → ltb n 10 ≡ b → value_of 10 0 (decimal_by k (n / 10)) ≡ n / 10
        → value_of 10 0 (cond b ((48 + n) ∷ []) (decimal_by k (n / 10) ++ ((48 + n % 10) ∷ []))) ≡ n
    go true e rest =
        let same : (0 + n) % 4294967296 ≡ n = omega arith in
        rw (decimal_digit n (ltb-true n 10 e)) same
    go false e rest =
        let digit-below : n % 10 < 10 = omega arith in
        let whole : (n / 10 * 10 + n % 10) % 4294967296 ≡ n = omega arith in
        value-then 10 0 (decimal_by k (n / 10)) ((48 + n % 10) ∷ [])
        ∙ rw (rest, decimal_digit (n % 10) digit-below) whole

-- ---- hexadecimal
capital-least : (d : ℕ) → 48 ≤ capital d
capital-least d = go (ltb d 10)
  where
    go : (b : Bool) → 48 ≤ cond b (48 + d) (55 + d)
    go true = omega arith
    go false = omega arith

pub capital-value : (d : ℕ) → d < 16 → hex_digit (capital d) ≡ d
capital-value d small = go (ltb d 10) refl
  where
    go : (b : Bool) → ltb d 10 ≡ b → hex_digit (cond b (48 + d) (55 + d)) ≡ d
    go true e = decimal_digit d (ltb-true d 10 e)
    go false e =
        let large : 10 ≤ d = ltb-false d 10 e in
        let digits : 48 ≤ 55 + d = omega arith in
        let past : 58 ≤ 55 + d = omega arith in
        let high : 65 ≤ 55 + d = omega arith in
        let last : 55 + d < 71 = omega arith in
        let same : 55 + d - 55 ≡ d = omega arith in
        rw (le-ltb (55 + d) 48 digits, le-ltb (55 + d) 58 past, le-ltb (55 + d) 65 high, lt-ltb (55 + d) 71 last) same

-- a digit is small
pub hex-most : (x : ℕ) → hex_digit x ≤ 16
hex-most x = go (ltb x 48) (ltb x 58) (ltb x 65) (ltb x 71) refl refl
  where
    go : (a b c d : Bool) → ltb x 58 ≡ b → ltb x 71 ≡ d → cond a 16 (cond b (x - 48) (cond c 16 (cond d (x - 55) 16))) ≤ 16
    go true b c d f g = omega arith
    go false true c d f g = omega (arith, ltb-true x 58 f)
    go false false true d f g = omega arith
    go false false false true f g = omega (arith, ltb-true x 71 g)
    go false false false false f g = omega arith

pub hex-digits : (k n : ℕ) → Digits (hex_by k n)
unfolding hex_by Digits
hex-digits zero n = tt
hex-digits (suc k) n = digits-then (hex_by k (n / 16)) (capital (n % 16) ∷ []) (hex-digits k (n / 16)) (capital-least (n % 16), tt)

pub hex-value : (k n : ℕ) → n < 16 ^ k → n < 4294967296 → value_of 16 0 (hex_by k n) ≡ n
unfolding hex_by value_of
hex-value zero n below fits = omega (arith, below)
hex-value (suc k) n below fits =
    let digit-below : n % 16 < 16 = omega arith in
    let rest-fits : n / 16 < 4294967296 = omega arith in
    let rest_below : n / 16 < 16 ^ k = omega (arith, below) in
    let whole : (n / 16 * 16 + n % 16) % 4294967296 ≡ n = omega arith in
    value-then 16 0 (hex_by k (n / 16)) (capital (n % 16) ∷ [])
    ∙ rw (hex-value k (n / 16) rest_below rest-fits, capital-value (n % 16) digit-below) whole
