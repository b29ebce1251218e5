-- Written by tests/written/wide.py from model, in f64.
-- What `support` finds is a point of its list, and telling its index as a u32 cuts nothing off an outline's; and what is left of the list at some place
-- gives, point by point. Assumes nothing.
use Prim.Native.Nat.{ℕ, suc, ◌+◌, ◌*◌, ◌/◌, ◌%◌, ◌^◌, ◌≤◌, ◌<◌}
use native.Mathlib.Nat.{mod-eq_of_lt}
use native.Mathlib.Omega.{arith}
use native.Mathlib.Numerals.{add-one}
use mathlib.Core.Bool.{cond}
use mathlib.Core.List.{List, [], ◌∷◌}
use mathlib.Core.Path.{◌≡◌, refl}
use lib.Ieee.{Float, nan, Format, lt}
use lib.ListN.{get_or, length, drop, length-drop}
use lib.Seq.{drop-cons}
use Rattle.model64.specs.declared.Vector.{Vector}
use Rattle.model64.specs.Ground.{vector, minus, dot}
use Rattle.model64.specs.Ground as Ground
use Rattle.model64.specs.Support.{point, support_from, support}
use Rattle.model64.proofs.Simplex.{by-test}

from-below : (f : Format) (d o : Vector) (s : List Float) (i best : ℕ) (value : Float) (n : ℕ) →
    2 * best + 1 < n → 2 * i + length s ≤ n → 2 * support_from f d o s i best value + 1 < n
unfolding support_from
from-below f d o [] i best value n p q = p
from-below f d o (x ∷ []) i best value n p q = p
from-below f d o (x ∷ y ∷ s) i best value n p q =
    let v = dot f d (minus f (vector x y) o) in
    from-below f d o s (i + 1) (cond (lt value v) i best) (cond (lt value v) v value) n
    (by-test (λ (k : ℕ). 2 * k + 1 < n) (lt value v) (omega (arith, q)) p) (omega (arith, q))

module _ (f : Format) (s : List Float) (d : Vector) where
  -- before the index is told as a u32
  abbrev pub farthest : ℕ
  farthest = support_from f d (point s 0) (drop 2 s) 1 0 (Ground.zero f)

  farthest-below : 1 < length s → 2 * farthest + 1 < length s
  farthest-below h = from-below f d (point s 0) (drop 2 s) 1 0 (Ground.zero f) (length s) h (rw (length-drop 2 s) (omega arith))

  -- both parts of the point that is found are in the list
  pub support-below : 1 < length s → 2 * support f s d + 1 < length s
  support-below h = omega (arith, farthest-below h)

  -- its number is below that of the points
  pub support-is-a-point : 1 < length s → support f s d < length s / 2
  support-is-a-point h = omega (arith, support-below h)

  -- of an outline the index is told whole
  pub support-is-whole : 1 < length s → length s ≤ 128 → support f s d ≡ farthest
  support-is-whole h k = mod-eq_of_lt (omega (arith, farthest-below h))

-- ---- point by point
-- what is left at point i, and that fewer than two parts are left after the last
pub at-point : (s : List Float) (i : ℕ) → i < length s / 2 → drop (2 * i) s ≡ get_or s (2 * i) nan ∷ get_or s (2 * i + 1) nan ∷ drop (2 * (i + 1)) s
at-point s i h =
    let inside : 2 * i + 1 < length s = omega arith in
    let first : drop (2 * i) s ≡ get_or s (2 * i) nan ∷ drop (suc (2 * i)) s = drop-cons s (2 * i) nan (omega arith) in
    let second : drop (2 * i + 1) s ≡ get_or s (2 * i + 1) nan ∷ drop (suc (2 * i + 1)) s = drop-cons s (2 * i + 1) nan inside in
    let next : suc (2 * i + 1) ≡ 2 * (i + 1) = omega arith in
    rw (first, ← add-one (2 * i), second, next)

pub past-last : (s : List Float) (i : ℕ) → length s / 2 ≤ i → length (drop (2 * i) s) ≤ 1
past-last s i h = rw (length-drop (2 * i) s) (omega arith)

module _ (f : Format) (d o : Vector) (s : List Float) (i best : ℕ) (value : Float) where
  -- what is left after point i, from the better of it and the best so far
  pub support-step : i < length s / 2 →
      let x = dot f d (minus f (point s i) o) in
      support_from f d o (drop (2 * i) s) i best value
      ≡ support_from f d o (drop (2 * (i + 1)) s) (i + 1) (cond (lt value x) i best) (cond (lt value x) x value)
  unfolding support_from
  support-step h = rw (at-point s i h)

short : (f : Format) (d o : Vector) (s : List Float) (i best : ℕ) (value : Float) → length s ≤ 1 → support_from f d o s i best value ≡ best
unfolding support_from
short f d o [] i best value h = refl
short f d o (x ∷ []) i best value h = refl
short f d o (x ∷ y ∷ s) i best value h = absurd (omega (arith, h))

pub support-stop : (f : Format) (d o : Vector) (s : List Float) (i best : ℕ) (value : Float) → length s / 2 ≤ i →
    support_from f d o (drop (2 * i) s) i best value ≡ best
support-stop f d o s i best value h = short f d o (drop (2 * i) s) i best value (past-last s i h)
