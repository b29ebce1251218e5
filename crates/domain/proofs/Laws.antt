-- A part within the limit on either side; what the loop over the parts of a list meets at the place it has reached: one more part, or the end.
-- Assumes nothing.
use Prim.Native.Nat.{ℕ, ◌+◌, ◌*◌, ◌<◌, ◌≤◌}
use native.Mathlib.Numerals.{add-one}
use native.Mathlib.Omega.{arith}
use mathlib.Core.Bool.{Bool, true, false, not, ◌&&◌, ◌||◌}
use mathlib.Core.List.{List}
use mathlib.Core.Path.{◌≡◌, refl, sym, ap, ◌∙◌}
use borrow.Author.Tests.{lt-ltb, eqb-true, eqb-false, eq-eqb, ne_eqb}
use lib.Dec.{eqb, ltb}
use lib.IntN.{ℤ, pos}
use lib.Ieee.{Float, nan, inf, fin, Format, binary32, up, down, le, neg, of_bits}
use lib.Ieee.Fits.{down_pos}
use lib.ListN.{get_or, drop, length, drop_of_length-le}
use lib.Seq.{drop-cons}
use Rattle.model.specs.Ground.{abs}
use Rattle.model.specs.Domain.{limit, bad_part, bad_parts}

-- ---- from -1,048,576 to 1,048,576
eqb_swap : (a b : ℕ) → eqb a b ≡ eqb b a
eqb_swap a b = go (eqb a b) refl
  where
    go : (t : Bool) → eqb a b ≡ t → eqb a b ≡ eqb b a
    go true e = e ∙ sym (eq-eqb b a (sym (eqb-true a b e)))
    go false e = e ∙ sym (ne_eqb b a (λ z. eqb-false a b e (sym z)))

and-true : (x : Bool) → x ≡ (x && true)
and-true true = refl
and-true false = refl

above_zero : (a b : ℕ) → 0 < b → ltb 0 (a + b) ≡ true
above_zero a b h = lt-ltb 0 (a + b) (omega arith)

-- a number not below 0 is above the least one, and a number not above 0 is below the greatest
plus-side : (a b : ℕ) (y z : Bool) → 0 < b → z ≡ ((ltb 0 (b + a) || y) && z)
plus-side a b y z h = rw (lt-ltb 0 (b + a) (omega arith))

minus-side : (a b : ℕ) (y : Bool) → 0 < b → (ltb a b || (eqb a b && true)) ≡ ((ltb a b || (eqb b a && true)) && (ltb 0 (a + b) || y))
minus-side a b y h = rw (above_zero a b h, eqb_swap a b) (and-true (ltb a b || (eqb b a && true)))

some : (e : ℤ) → 0 < 1 * 1048576 * down e
some e = omega (arith, down_pos e)

in_size : (x : Float) → le (abs x) (fin false 1 (pos 20)) ≡ (le (fin true 1 (pos 20)) x && le x (fin false 1 (pos 20)))
unfolding le abs
in_size nan = refl
in_size (inf true) = refl
in_size (inf false) = refl
in_size (fin false m e) = plus-side (m * up e * 1) (1 * 1048576 * down e) _ _ (some e)
in_size (fin true m e) = minus-side (m * up e * 1) (1 * 1048576 * down e) _ (some e)

limit_is : limit binary32 ≡ fin false 1 (pos 20)
unfolding of_bits
limit_is = refl

least-is : neg (limit binary32) ≡ fin true 1 (pos 20)
unfolding of_bits neg
least-is = refl

pub part-within : (x : Float) → not (le (neg (limit binary32)) x && le x (limit binary32)) ≡ bad_part binary32 x
part-within x = rw (least-is, limit_is) (ap not (sym (in_size x)))

-- ---- one more part
pub either_way : (part rest bad : Bool) → ((part || rest) || bad) ≡ (rest || (bad || part))
either_way true true bad = refl
either_way true false true = refl
either_way true false false = refl
either_way false true bad = refl
either_way false false true = refl
either_way false false false = refl

pub nothing_yet : (rest : Bool) → (rest || false) ≡ rest
nothing_yet true = refl
nothing_yet false = refl

pub parts-step : (f : Format) (s : List Float) (i : ℕ) → i < length s → bad_parts f (drop i s) ≡ (bad_part f (get_or s i nan) || bad_parts f (drop (i + 1) s))
unfolding bad_parts
parts-step f s i h = rw (add-one, drop-cons s i nan)

pub parts-stop : (f : Format) (s : List Float) (i : ℕ) → length s ≤ i → bad_parts f (drop i s) ≡ false
unfolding bad_parts
parts-stop f s i h = rw (drop_of_length-le s h)
