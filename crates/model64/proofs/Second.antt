-- Written by tests/written/wide.py from model, in f64.
-- What the second index of `support` is: its value equals the winning one, no higher index has an equal value, and it is at least the first. For a
-- direction with a NaN both are 0. Assumes nothing.
use Prim.Native.Nat.{ℕ, zero, suc, ◌+◌, ◌*◌, ◌/◌, ◌%◌, ◌^◌, ◌-◌, ◌≤◌, ◌<◌}
use native.Mathlib.Nat.{mod-eq_of_lt}
use native.Mathlib.Omega.{arith}
use mathlib.Core.Bool.{Bool, true, false, cond, true≢false}
use mathlib.Core.List.{List, [], ◌∷◌}
use mathlib.Core.Path.{◌≡◌, refl, sym, ap, subst, ◌∙◌}
use borrow.Author.Tests.{eqb-true, eqb-false, eq-eqb, ne_eqb}
use lib.Dec.{eqb}
use lib.Ieee.{Float, nan, inf, fin, Format, binary32, binary64, up, down, of_bits, add, mul, lt, eq, is_nan}
use lib.ListN.{length, drop}
use Rattle.model64.specs.declared.Vector.{Vector}
use Rattle.model64.specs.Ground.{vector, minus, dot}
use Rattle.model64.specs.Ground as Ground
use Rattle.model64.specs.Support.{point, support_from, support}
use Rattle.model64.specs.Second.{second_from, second, pair, support_pair, value_of, IsSecond}
use Rattle.model64.proofs.Support.{at-point, past-last, support-step, support-stop, farthest, support-is-whole}

-- ---- a float equals itself unless it is a NaN
equals_itself : (x : Float) → is_nan x ≡ false → eq x x ≡ true
unfolding eq is_nan
equals_itself nan h = absurd (true≢false h)
equals_itself (inf true) h = refl
equals_itself (inf false) h = refl
equals_itself (fin true m e) h = rw (eq-eqb (m * up e * down e) (m * up e * down e) refl)
equals_itself (fin false m e) h = rw (eq-eqb (m * up e * down e) (m * up e * down e) refl)

greater-is-number : (x y : Float) → lt x y ≡ true → is_nan y ≡ false
unfolding lt is_nan
greater-is-number x (inf s) h = refl
greater-is-number x (fin s m e) h = refl
greater-is-number nan nan h = absurd (true≢false (sym h))
greater-is-number (inf s) nan h = absurd (true≢false (sym h))
greater-is-number (fin s m e) nan h = absurd (true≢false (sym h))

zero-is-number : (f : Format) → is_nan (Ground.zero f) ≡ false
unfolding of_bits is_nan
zero-is-number binary32 = refl
zero-is-number binary64 = refl

-- ---- point by point
module _ (f : Format) (d o : Vector) (s : List Float) (i k : ℕ) (value : Float) where
  pub second-step : i < length s / 2 →
      let x = dot f d (minus f (point s i) o) in
      second_from f d o (drop (2 * i) s) i k value
      ≡ second_from f d o (drop (2 * (i + 1)) s) (i + 1) (cond (lt value x) i (cond (eq x value) i k)) (cond (lt value x) x value)
  unfolding second_from
  second-step h = rw (at-point s i h)

short : (f : Format) (d o : Vector) (s : List Float) (i k : ℕ) (value : Float) → length s ≤ 1 → second_from f d o s i k value ≡ k
unfolding second_from
short f d o [] i k value h = refl
short f d o (x ∷ []) i k value h = refl
short f d o (x ∷ y ∷ s) i k value h = absurd (omega (arith, h))

pub second-stop : (f : Format) (d o : Vector) (s : List Float) (i k : ℕ) (value : Float) → length s / 2 ≤ i →
    second_from f d o (drop (2 * i) s) i k value ≡ k
second-stop f d o s i k value h = short f d o (drop (2 * i) s) i k value (past-last s i h)

-- ---- one point after another
module _ (f : Format) (s : List Float) (d : Vector) where
  -- one more point, of the value v beside the best so far, x
  next : (i best k : ℕ) (x v : Float) → 1 ≤ i → v ≡ value_of f s d i → x ≡ value_of f s d best → IsSecond f s d i best k → (up level : Bool) →
      lt x v ≡ up → eq v x ≡ level → IsSecond f s d (i + 1) (cond up i best) (cond up i (cond level i k))
  next i best k x v h e g r true level p q = record {
    equal = equals_itself (value_of f s d i) (rw (← e) (greater-is-number x v p));
    none-higher = λ j a b. absurd (omega (arith, a, b));
    at_least = omega arith;
    inside = omega arith;
  }
  next i best k x v h e g r false true p q = record {
    equal = rw (← e, ← g) q;
    none-higher = λ j a b. absurd (omega (arith, a, b));
    at_least = omega (arith, r.at_least, r.inside);
    inside = omega arith;
  }
  next i best k x v h e g r false false p q = record {
    equal = r.equal;
    none-higher = higher;
    at_least = r.at_least;
    inside = omega (arith, r.inside);
  }
    where
      here : eq (value_of f s d i) (value_of f s d best) ≡ false
      here = rw (← e, ← g) q

      by_place : (j : ℕ) (same : Bool) → eqb j i ≡ same → k < j → j < i + 1 → eq (value_of f s d j) (value_of f s d best) ≡ false
      by_place j true t a b = rw (eqb-true j i t) here
      by_place j false t a b = r.none-higher j a (omega (arith, eqb-false j i t, b))

      higher : (j : ℕ) → k < j → j < i + 1 → eq (value_of f s d j) (value_of f s d best) ≡ false
      higher j a b = by_place j (eqb j i) refl a b

  abbrev o : Vector
  o = point s 0

  best-value : (i best : ℕ) (x v : Float) → v ≡ value_of f s d i → x ≡ value_of f s d best → (up : Bool) → cond up v x ≡ value_of f s d (cond up i best)
  best-value i best x v e g true = e
  best-value i best x v e g false = g

  from : (left i best k : ℕ) (x : Float) → 1 ≤ i → i + left ≡ length s / 2 → x ≡ value_of f s d best → IsSecond f s d i best k →
      IsSecond f s d (length s / 2) (support_from f d o (drop (2 * i) s) i best x) (second_from f d o (drop (2 * i) s) i k x)
  from zero i best k x h e g r =
      let all : length s / 2 ≤ i = omega arith in
      let there : i ≡ length s / 2 = omega arith in
      rw (support-stop f d o s i best x all, second-stop f d o s i k x all) (subst (λ (n : ℕ). IsSecond f s d n best k) there r)
  from (suc left) i best k x h e g r =
      let more : i < length s / 2 = omega arith in
      let v = dot f d (minus f (point s i) o) in
      let here : v ≡ value_of f s d i = rw (ne_eqb i 0 (λ z. omega (arith, z, h))) in
      rw (support-step f d o s i best x more, second-step f d o s i k x more)
      (from left (i + 1) (cond (lt x v) i best) (cond (lt x v) i (cond (eq v x) i k)) (cond (lt x v) v x) (omega arith) (omega arith)
      (best-value i best x v here g (lt x v)) (next i best k x v h here g r (lt x v) (eq v x) refl refl))

  -- point 0 is first and second of itself
  alone : IsSecond f s d 1 0 0
  alone = record {
    equal = equals_itself (Ground.zero f) (zero-is-number f);
    none-higher = λ j a b. absurd (omega (arith, a, b));
    at_least = omega arith;
    inside = omega arith;
  }

  -- before both are told as u32
  abbrev last_equal : ℕ
  last_equal = second_from f d o (drop 2 s) 1 0 (Ground.zero f)

  farthest-and-last : 1 < length s → IsSecond f s d (length s / 2) (farthest f s d) last_equal
  farthest-and-last h = from (length s / 2 - 1) 1 0 0 (Ground.zero f) (omega arith) (omega arith) refl alone

  -- of an outline the second index is told whole
  pub second-is-whole : 1 < length s → length s ≤ 128 → second f s d ≡ last_equal
  second-is-whole h k = mod-eq_of_lt (omega (arith, (farthest-and-last h).inside, k))

  pub second-is-second : 1 < length s → length s ≤ 128 → IsSecond f s d (length s / 2) (support f s d) (second f s d)
  second-is-second h k = rw (support-is-whole f s d h k, second-is-whole h k) (farthest-and-last h)

-- ---- a direction with a NaN
sum-with-nan : (f : Format) (x : Float) → add f x nan ≡ nan
unfolding add
sum-with-nan f nan = refl
sum-with-nan f (inf s) = refl
sum-with-nan f (fin s m e) = refl

product-with-nan : (f : Format) (x : Float) → mul f nan x ≡ nan
unfolding mul
product-with-nan f x = refl

sum-from-nan : (f : Format) (x : Float) → add f nan x ≡ nan
unfolding add
sum-from-nan f x = refl

below_nan : (x : Float) → lt x nan ≡ false
unfolding lt
below_nan nan = refl
below_nan (inf s) = refl
below_nan (fin s m e) = refl

nan-equals : (x : Float) → eq nan x ≡ false
unfolding eq
nan-equals x = refl

-- where no value is a number, what is found so far stays
module _ (f : Format) (d o : Vector) (none : (w : Vector) → dot f d w ≡ nan) where
  first-stays : (s : List Float) (i best : ℕ) (value : Float) → support_from f d o s i best value ≡ best
  unfolding support_from
  first-stays [] i best value = refl
  first-stays (x ∷ []) i best value = refl
  first-stays (x ∷ y ∷ s) i best value = rw (none (minus f (vector x y) o), below_nan value) (first-stays s (i + 1) best value)

  second-stays : (s : List Float) (i k : ℕ) (value : Float) → second_from f d o s i k value ≡ k
  unfolding second_from
  second-stays [] i k value = refl
  second-stays (x ∷ []) i k value = refl
  second-stays (x ∷ y ∷ s) i k value = rw (none (minus f (vector x y) o), below_nan value, nan-equals value) (second-stays s (i + 1) k value)

module _ (f : Format) (s : List Float) where
  both-stay : (d : Vector) → ((w : Vector) → dot f d w ≡ nan) → support_pair f s d ≡ pair 0 0
  both-stay d none =
      rw (first-stays f d (point s 0) none (drop 2 s) 1 0 (Ground.zero f), second-stays f d (point s 0) none (drop 2 s) 1 0 (Ground.zero f))

  pub nan-x-finds-nothing : (y : Float) → support_pair f s (vector nan y) ≡ pair 0 0
  nan-x-finds-nothing y = both-stay (vector nan y) (λ w. rw (product-with-nan f w.x, sum-from-nan f (mul f y w.y)))

  pub nan-y-finds-nothing : (x : Float) → support_pair f s (vector x nan) ≡ pair 0 0
  nan-y-finds-nothing x = both-stay (vector x nan) (λ w. rw (product-with-nan f w.y, sum-with-nan f (mul f x w.x)))
