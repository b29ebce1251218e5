-- Weighted sums: along a direction they stay within what their corners reach, and weights on pairs of corners become weights on an outline's corners. Assumes nothing.
use mathlib.Core.Path.{◌≡◌, refl}
use mathlib.Core.Bool.{Bool, true, false, cond}
use mathlib.Core.List.{[], ◌∷◌}
use Prim.Native.Nat.{ℕ, zero, suc, ◌+◌, ◌*◌, ◌≤◌, ◌<◌}
use native.Mathlib.Nat.{le_step, le_refl, le_of_suc-le-suc, not-suc-le-zero}
use native.Mathlib.Omega.{arith}
use lib.Arith.{lt_of_le-ne}
use lib.Dec.{T, eqb, eqb→eq, eqb_refl}
use Rattle.integers.specs.Signed.{Int, 0Int, of_nat, ◌⊞◌, ◌⊟◌, ◌⊠◌, ◌≼◌, ◌≃◌}
use Rattle.integers.specs.Polynomial.{var, ◌:+◌, ◌:-◌, ◌:*◌}
use Rattle.integers.proofs.Signed.{⊠-comm, ⊠-zero, ⊠-nonneg}
use Rattle.integers.proofs.Ring.{ring}
use Rattle.plane.specs.Plane.{Point, dot, total, sum_below, weighted_sum}

pub ⊠-mono : (k a b : Int) → 0Int ≼ k → a ≼ b → k ⊠ a ≼ k ⊠ b
⊠-mono k a b h l = omega (arith, ⊠-nonneg k (b ⊟ a) h (omega arith), ring (var 0 :* (var 2 :- var 1)) (var 0 :* var 2 :- var 0 :* var 1) (k ∷ a ∷ b ∷ []) tt)

-- ---- along a direction
module _ (weight : ℕ → ℕ) where
  pub dot-of-sum : (n : ℕ) (z : ℕ → Point) (d : Point) → sum_below n (λ i. of_nat (weight i) ⊠ dot d (z i)) ≃ dot d (weighted_sum n weight z)
  dot-of-sum zero z d = omega (arith, ⊠-zero d.x, ⊠-zero d.y)
  dot-of-sum (suc n) z d =
      let before = weighted_sum n weight z in
      omega (
        arith,
        dot-of-sum n z d,
        ring (var 0 :* var 2 :+ var 1 :* var 3 :+ var 4 :* (var 0 :* var 5 :+ var 1 :* var 6))
            (var 0 :* (var 2 :+ var 4 :* var 5) :+ var 1 :* (var 3 :+ var 4 :* var 6))
            (d.x ∷ d.y ∷ before.x ∷ before.y ∷ of_nat (weight n) ∷ (z n).x ∷ (z n).y ∷ []) tt,
      )

  one-weight-more : (n : ℕ) (m : Int) → of_nat (total n weight + weight n) ⊠ m ≃ of_nat (total n weight) ⊠ m ⊞ of_nat (weight n) ⊠ m
  one-weight-more n m = ring ((var 0 :+ var 1) :* var 2) (var 0 :* var 2 :+ var 1 :* var 2) (of_nat (total n weight) ∷ of_nat (weight n) ∷ m ∷ []) tt

  pub sum-at-most : (n : ℕ) (g : ℕ → Int) (m : Int) → ((i : ℕ) → i < n → g i ≼ m) → sum_below n (λ i. of_nat (weight i) ⊠ g i) ≼ of_nat (total n weight) ⊠ m
  sum-at-most zero g m h = omega (arith, ⊠-comm 0Int m, ⊠-zero m)
  sum-at-most (suc n) g m h =
      omega (arith, sum-at-most n g m (λ i l. h i (le_step l)), ⊠-mono (of_nat (weight n)) (g n) m (omega arith) (h n (le_refl (suc n))), one-weight-more n m)

  pub sum-at-least : (n : ℕ) (g : ℕ → Int) (m : Int) → ((i : ℕ) → i < n → m ≼ g i) → of_nat (total n weight) ⊠ m ≼ sum_below n (λ i. of_nat (weight i) ⊠ g i)
  sum-at-least zero g m h = omega (arith, ⊠-comm 0Int m, ⊠-zero m)
  sum-at-least (suc n) g m h =
      omega (arith, sum-at-least n g m (λ i l. h i (le_step l)), ⊠-mono (of_nat (weight n)) m (g n) (omega arith) (h n (le_refl (suc n))), one-weight-more n m)

  pub sum-of-differences : (n : ℕ) (g h : ℕ → Int) → sum_below n (λ i. of_nat (weight i) ⊠ (g i ⊟ h i)) ≃ sum_below n (λ i. of_nat (weight i) ⊠ g i) ⊟ sum_below n
      (λ i. of_nat (weight i) ⊠ h i)
  sum-of-differences zero g h = refl
  sum-of-differences (suc n) g h =
      omega (arith, sum-of-differences n g h, ring (var 0 :* (var 1 :- var 2)) (var 0 :* var 1 :- var 0 :* var 2) (of_nat (weight n) ∷ g n ∷ h n ∷ []) tt)

-- ---- from m pairs to corners: corner i gets the weights of the pairs that name it
abbrev pub on_corners : (ℕ → ℕ) → ℕ → (ℕ → ℕ) → ℕ → ℕ
on_corners name zero weight i = 0
on_corners name (suc m) weight i = on_corners name m weight i + cond (eqb (name m) i) (weight m) 0

module _ (z : ℕ → Int) where
  -- a sum over n corners, and the total of its weights
  abbrev Both : ℕ → (ℕ → ℕ) → ℕ → Int → Type 0
  Both n weight t s = (total n weight ≡ t) × (sum_below n (λ i. of_nat (weight i) ⊠ z i) ≃ s)

  no-weights : (n : ℕ) → Both n (λ i. 0) 0 0Int
  no-weights zero = (refl, refl)
  no-weights (suc n) = let (t, s) = no-weights n in (omega arith, omega (arith, ⊠-comm 0Int (z n), ⊠-zero (z n)))

  add-weights : (n : ℕ) (v w : ℕ → ℕ)
      → Both n (λ i. v i + w i) (total n v + total n w) (sum_below n (λ i. of_nat (v i) ⊠ z i) ⊞ sum_below n (λ i. of_nat (w i) ⊠ z i))
  add-weights zero v w = (refl, refl)
  add-weights (suc n) v w =
      let (t, s) = add-weights n v w in
      (omega arith, omega (arith, ring ((var 0 :+ var 1) :* var 2) (var 0 :* var 2 :+ var 1 :* var 2) (of_nat (v n) ∷ of_nat (w n) ∷ z n ∷ []) tt))

  -- the weight k on corner j alone
  not_there : (n j k : ℕ) → n ≤ j → Both n (λ i. cond (eqb j i) k 0) 0 0Int
  not_there zero j k h = (refl, refl)
  not_there (suc n) j k h = go (eqb j n) (eqb→eq j n) (not_there n j k (omega arith))
    where
      go : (b : Bool) → (T b → j ≡ n) → Both n (λ i. cond (eqb j i) k 0) 0 0Int
          → (total n (λ i. cond (eqb j i) k 0) + cond b k 0 ≡ 0) × (sum_below n (λ i. of_nat (cond (eqb j i) k 0) ⊠ z i) ⊞ of_nat (cond b k 0) ⊠ z n ≃ 0Int)
      go true e ih = absurd (clash (e tt))
        where
          clash : j ≡ n → ⊥
          clash e = omega arith
      go false e (t, s) = (omega arith, omega (arith, ⊠-comm 0Int (z n), ⊠-zero (z n)))

  there : (n j k : ℕ) → j < n → Both n (λ i. cond (eqb j i) k 0) k (of_nat k ⊠ z j)
  there zero j k h = absurd (not-suc-le-zero h)
  there (suc n) j k h = go (eqb j n) (eqb→eq j n) (λ (e : j ≡ n). rw e (eqb_refl n)) (λ l. there n j k l)
    where
      go : (b : Bool) → (T b → j ≡ n) → (j ≡ n → T b) → (j < n → Both n (λ i. cond (eqb j i) k 0) k (of_nat k ⊠ z j))
          → (total n (λ i. cond (eqb j i) k 0) + cond b k 0 ≡ k)
          × (sum_below n (λ i. of_nat (cond (eqb j i) k 0) ⊠ z i) ⊞ of_nat (cond b k 0) ⊠ z n ≃ of_nat k ⊠ z j)
      go true e g ih = let (t, s) = not_there n n k (le_refl n) in rw (e tt) (omega arith, omega arith)
      go false e g ih = let (t, s) = ih (lt_of_le-ne (le_of_suc-le-suc h) g) in (omega arith, omega (arith, ⊠-comm 0Int (z n), ⊠-zero (z n)))

  pub moved-to-corners : (name : ℕ → ℕ) (n m : ℕ) (weight : ℕ → ℕ) → ((i : ℕ) → i < m → name i < n)
      → Both n (on_corners name m weight) (total m weight) (sum_below m (λ i. of_nat (weight i) ⊠ z (name i)))
  moved-to-corners name n zero weight h = no-weights n
  moved-to-corners name n (suc m) weight h =
      let (t, s) = moved-to-corners name n m weight (λ i l. h i (le_step l)) in
      let (t', s') = there n (name m) (weight m) (h m (le_refl (suc m))) in
      let (t'', s'') = add-weights n (on_corners name m weight) (λ i. cond (eqb (name m) i) (weight m) 0) in
      (omega arith, omega arith)
