-- `support` finds a corner that lies furthest along a direction: over whole numbers of bounded size no corner has a larger value. Assumes nothing.
use mathlib.Core.Path.{◌≡◌, sym, subst, ap}
use mathlib.Core.Logic.{inl, inr}
use mathlib.Core.Bool.{Bool, true, false, cond}
use mathlib.Core.List.{List, [], ◌∷◌}
use Prim.Native.Nat.{ℕ, zero, suc, ◌+◌, ◌*◌, ◌/◌, ◌^◌, ◌≤◌, ◌<◌}
use native.Mathlib.Nat.{le_refl, le_of_suc-le-suc, not-suc-le-zero, zero-lt-suc, eq-or-lt_of_le, mod-eq_of_lt}
use native.Mathlib.Numerals.{add-one}
use native.Mathlib.Omega.{arith}
use lib.ListN.{length, get_or}
use lib.Ieee.{Float, nan, Format}
use lib.Ieee as I
use Rattle.integers.specs.Signed.{Int, 0Int, ◌⊟◌, ◌≼◌, ◌≺◌, ◌≃◌}
use Rattle.integers.specs.Whole.{IsWhole, Test}
use Rattle.integers.specs.Polynomial.{var, lit, ◌:+◌, ◌:-◌, ◌:*◌}
use Rattle.integers.proofs.Ring.{ring}
use Rattle.integers.proofs.Compare.{lt-exact}
use Rattle.model.specs.declared.Vector.{Vector}
use Rattle.model.specs.Ground.{vector, minus}
use Rattle.model.specs.Ground as Ground
use Rattle.model.specs.Support.{point, support_from, support}
use Rattle.plane.specs.Plane.{Point, difference, dot}
use Rattle.exact.specs.SquaredPaper.{Room}
use Rattle.exact.proofs.Vectors.{SizedPoint, dot-sized, zero-whole, whole-of-equal}

-- ---- flat lists
pub two-more : (n : ℕ) → suc (suc n) / 2 ≡ suc (n / 2)
two-more n = omega arith

pub next-point : (x y : Float) (l : List Float) (k : ℕ) → point (x ∷ y ∷ l) (suc k) ≡ point l k
next-point x y l k =
    let e : 2 * suc k ≡ suc (suc (2 * k)) = omega arith in
    let e' : 2 * suc k + 1 ≡ suc (suc (2 * k + 1)) = omega arith in
    λ i. vector (ap (λ (j : ℕ). get_or (x ∷ y ∷ l) j nan) e i) (ap (λ (j : ℕ). get_or (x ∷ y ∷ l) j nan) e' i)

-- ---- of the first n corners z, one that lies furthest along e
pub record Furthest (e : Point) (z : ℕ → Point) (n best : ℕ) : Type 0 where
  pub among : best < n
  pub most : (k : ℕ) → k < n → dot e (z k) ≼ dot e (z best)

module _ (f : Format) (bound : ℕ) (room : Room f bound) {d : Vector} {e : Point} (along : SizedPoint bound d e 32 3) (z : ℕ → Point) (o : Vector) where
  -- the value of corner k is that of its difference to corner 0
  value-flat : (k : ℕ) → dot e (difference (z k) (z 0)) ≃ dot e (z k) ⊟ dot e (z 0)
  value-flat k =
      ring (var 0 :* (var 2 :- var 4) :+ var 1 :* (var 3 :- var 5)) (var 0 :* var 2 :+ var 1 :* var 3 :- (var 0 :* var 4 :+ var 1 :* var 5))
      (e.x ∷ e.y ∷ (z k).x ∷ (z k).y ∷ (z 0).x ∷ (z 0).y ∷ []) tt

  abbrev pub value : ℕ → Int
  value k = dot e (difference (z k) (z 0))

  -- the best of the first i corners, and its value
  abbrev Best : ℕ → ℕ → Float → Type 0
  Best i best x = Furthest e z i best × IsWhole x (value best)

  up_to : (i k : ℕ) (F : ℕ → Type 0) → k < i + 1 → ((j : ℕ) → j < i → F j) → F i → F k
  up_to i k F h below here = elim (eq-or-lt_of_le (le_of_suc-le-suc (subst (λ (n : ℕ). k < n) (add-one i) h)))
      [ inl r ↦ subst F (sym r) here | inr r ↦ below k r ]

  -- one corner more: it wins if its value is greater
  one_more : {i best : ℕ} {x y : Float} → Best i best x → IsWhole y (value i) → Best (i + 1) (cond (I.lt x y) i best) (cond (I.lt x y) y x)
  one_more {i} {best} {x} {y} (b, v) w = go (I.lt x y) (lt-exact x y (value best) (value i) v w)
    where
      go : (t : Bool) → Test t (value best ≺ value i) (value i ≼ value best) → Best (i + 1) (cond t i best) (cond t y x)
      go true h = (
        record {
          among = omega arith;
          most = λ k r. up_to i k (λ j. dot e (z j) ≼ dot e (z i)) r
              (λ j l. omega (arith, b.most j l, value-flat best, value-flat i)) (le_refl _);
        },
        w,
      )
      go false h = (
        record {
          among = omega (arith, b.among);
          most = λ k r. up_to i k (λ j. dot e (z j) ≼ dot e (z best)) r b.most
              (omega (arith, value-flat best, value-flat i));
        },
        v,
      )

  -- the corners of l stand from place i on
  abbrev pub From : List Float → ℕ → Type 0
  From l i = (k : ℕ) → k < length l / 2 → SizedPoint bound (minus f (point l k) o) (difference (z (i + k)) (z 0)) 4 1

  pub first-is : (x y : Float) (l : List Float) (i : ℕ) → From (x ∷ y ∷ l) i → IsWhole (Ground.dot f d (minus f (vector x y) o)) (value i)
  first-is x y l i h =
      let here : i + 0 ≡ i = omega arith in
      (dot-sized f bound room along (subst (λ (k : ℕ). SizedPoint bound (minus f (vector x y) o) (difference (z k) (z 0)) 4 1) here (h 0 (omega arith))) tt tt
      tt).int

  pub rest-are : (x y : Float) (l : List Float) (i : ℕ) → From (x ∷ y ∷ l) i → From l (i + 1)
  rest-are x y l i h k r =
      subst (λ (q : Vector). SizedPoint bound (minus f q o) (difference (z (i + 1 + k)) (z 0)) 4 1) (next-point x y l k)
      (subst (λ (j : ℕ). SizedPoint bound (minus f (point (x ∷ y ∷ l) (suc k)) o) (difference (z j) (z 0)) 4 1) (omega arith) (h (suc k) (omega arith)))

  search-on : (l : List Float) (i best : ℕ) (x : Float) → Best i best x → From l i → Furthest e z (i + length l / 2) (support_from f d o l i best x)
  unfolding support_from
  search-on [] i best x b h = subst (λ (n : ℕ). Furthest e z n best) (omega arith) b.0
  search-on (_ ∷ []) i best x b h = subst (λ (n : ℕ). Furthest e z n best) (omega arith) b.0
  search-on (px ∷ py ∷ l) i best x b h =
      let y = Ground.dot f d (minus f (vector px py) o) in
      subst (λ (n : ℕ). Furthest e z n (support_from f d o l (i + 1) (cond (I.lt x y) i best) (cond (I.lt x y) y x))) (omega arith)
      (search-on l (i + 1) (cond (I.lt x y) i best) (cond (I.lt x y) y x) (one_more b (first-is px py l i h)) (rest-are px py l i h))

-- the whole search, over an outline of at most 64 corners: the index is not cut
pub support-furthest : (f : Format) (bound : ℕ) (room : Room f bound) {d : Vector} {e : Point} → SizedPoint bound d e 32 3 → (z : ℕ → Point) (s : List Float)
    → 0 < length s / 2 → length s ≤ 128 → ((k : ℕ) → k < length s / 2 → SizedPoint bound (minus f (point s k) (point s 0)) (difference (z k) (z 0)) 4 1)
    → Furthest e z (length s / 2) (support f s d)
support-furthest f bound room along z [] h l fits = absurd (not-suc-le-zero h)
support-furthest f bound room along z (_ ∷ []) h l fits = absurd (not-suc-le-zero h)
support-furthest f bound room {d} {e} along z (x ∷ y ∷ s) h l fits =
    let o = point (x ∷ y ∷ s) 0 in
    let nothing : IsWhole (Ground.zero f) (value f bound room along z o 0) =
    whole-of-equal (zero-whole f) (ring (lit 0Int) (var 0 :* (var 2 :- var 2) :+ var 1 :* (var 3 :- var 3)) (e.x ∷ e.y ∷ (z 0).x ∷ (z 0).y ∷ []) tt) in
    let start : Furthest e z 1 0 = record { among = zero-lt-suc 0; most = λ k r. subst (λ (j : ℕ). dot e (z j) ≼ dot e (z 0)) (first k r) (le_refl _) } in
    let found = search-on f bound room along z o s 1 0 (Ground.zero f) (start, nothing)
    (rest-are f bound room along z o x y s 0 (λ k r. rw (from_zero k) (fits k r))) in
    subst (Furthest e z (length (x ∷ y ∷ s) / 2)) (sym (mod-eq_of_lt (small (length s) found.among l)))
    (subst (λ (n : ℕ). Furthest e z n (support_from f d o s 1 0 (Ground.zero f))) (omega arith) found)
  where
    first : (k : ℕ) → k < 1 → 0 ≡ k
    first k r = omega arith

    from_zero : (k : ℕ) → 0 + k ≡ k
    from_zero k = omega arith

    small : (n : ℕ) {r : ℕ} → r < 1 + n / 2 → suc (suc n) ≤ 128 → r < 2 ^ 32
    small n h l = omega arith
