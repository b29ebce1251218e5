-- From one solve to the next: what was kept is still held, so the next kept place is no longer than the last one; and where it is as long, it is the same place, and the
-- directions are positive multiples of each other. Assumes nothing.
use mathlib.Core.Logic.{◌⊎◌, inl, inr}
use mathlib.Core.List.{[], ◌∷◌}
use Prim.Native.Nat.{ℕ, ◌+◌, ◌≤◌, ◌<◌}
use native.Mathlib.Omega.{arith}
use Rattle.integers.specs.Signed.{Int, 0Int, of_nat, neg, ◌⊞◌, ◌⊟◌, ◌⊠◌, ◌≼◌, ◌≺◌, ◌≃◌}
use Rattle.integers.specs.Polynomial.{var, ◌:+◌, ◌:-◌, ◌:*◌, negated}
use Rattle.integers.proofs.Signed.{le-or-lt, ⊠-comm, ⊠-zero, ⊠-one, ⊠-cong-r, ⊠-square, ⊠-pos}
use Rattle.integers.proofs.Ring.{ring}
use Rattle.plane.specs.Plane.{Point, scaled, dot, total, weighted_sum}
use Rattle.plane.specs.Fraction.{◌≤ᶠ◌, ◌<ᶠ◌, ◌≃ᶠ◌}
use Rattle.circles.specs.NoCircles.{squared_length, NearestOf, OneLength}
use Rattle.plane.proofs.Weights.{⊠-mono, dot-of-sum, sum-at-most, sum-at-least}
use Rattle.exact.proofs.Kept.{Kept, Covered}
use Rattle.exact.proofs.Nearest.{beyond, no-nearer, kept-off-origin}
use Rattle.circles.proofs.Along.{no_way, Along}

-- ---- nearest places
-- weights give the nearest place of some places if none of these lies before the line through it that stands across the way from the origin
pub least-by-level : (n : ℕ) (place : ℕ → Point) (weight : ℕ → ℕ)
    → let u = weighted_sum n weight place in
    ((i : ℕ) → i < n → dot u u ≼ dot (scaled (of_nat (total n weight)) u) (place i))
    → (other : ℕ → ℕ) → squared_length n place weight ≤ᶠ squared_length n place other
least-by-level n place weight behind other =
    let v = weighted_sum n other place in
    let u = weighted_sum n weight place in
    let k = of_nat (total n weight) in
    no-nearer u v k (of_nat (total n other)) (omega arith) (omega (
      arith,
      sum-at-least other n (λ i. dot (scaled k u) (place i)) (dot u u) behind,
      dot-of-sum other n place (scaled k u),
      ring (var 0 :* var 1 :* var 3 :+ var 0 :* var 2 :* var 4) (var 0 :* (var 1 :* var 3 :+ var 2 :* var 4)) (k ∷ u.x ∷ u.y ∷ v.x ∷ v.y ∷ []) tt,
    ))

pub nearest-of-kept : {d : Point} {m : ℕ} {kept : ℕ → Point} {n : ℕ} {held : ℕ → Point} → Kept d m kept n held → NearestOf m kept
nearest-of-kept {d} {m} {kept} K =
    let u = weighted_sum m K.weight kept in
    let k = of_nat (total m K.weight) in
    let behind : (i : ℕ) → i < m → dot u u ≼ dot (scaled k u) (kept i) = λ i l. omega (
      arith,
      beyond d u (kept i) k (of_nat K.times) K.level (of_nat 1) (omega arith) (omega (arith, K.forth)) K.along-x K.along-y K.flat
          (omega (arith, K.own i l, ⊠-comm (of_nat 1) K.level, ⊠-one K.level)),
      ⊠-comm (of_nat 1) (dot u u),
      ⊠-one (dot u u),
      ring (var 0 :* var 1 :* var 3 :+ var 0 :* var 2 :* var 4) (var 0 :* (var 1 :* var 3 :+ var 2 :* var 4)) (k ∷ u.x ∷ u.y ∷ (kept i).x ∷ (kept i).y ∷ []) tt,
    ) in
    record { weight = K.weight; some = K.some; least = λ other h. least-by-level m kept K.weight behind other }

-- the origin itself
pub nearest-of-covered : {n : ℕ} {held : ℕ → Point} → Covered n held → NearestOf n held
nearest-of-covered {n} {held} c =
    let u = weighted_sum n c.weight held in
    let k = of_nat (total n c.weight) in
    let behind : (i : ℕ) → i < n → dot u u ≼ dot (scaled k u) (held i) = λ i l. omega (
      arith,
      no_way u u c.zero-x c.zero-y,
      no_way (scaled k u) (held i) (omega (arith, ⊠-cong-r k u.x 0Int c.zero-x, ⊠-zero k)) (omega (arith, ⊠-cong-r k u.y 0Int c.zero-y, ⊠-zero k)),
    ) in
    record { weight = c.weight; some = c.some; least = λ other h. least-by-level n held c.weight behind other }

pub one-length : OneLength
one-length n place u v = omega (arith, u.least v.weight v.some, v.least u.weight u.some)

-- ---- one solve after the other
-- two squares whose sum is not above 0
pub both_zero : (x y : Int) → x ⊠ x ⊞ y ⊠ y ≼ 0Int → (x ≃ 0Int) × (y ≃ 0Int)
both_zero x y h = (alone x (omega (arith, ⊠-square y)), alone y (omega (arith, ⊠-square x)))
  where
    alone : (x : Int) → x ⊠ x ≼ 0Int → x ≃ 0Int
    alone x h = go (le-or-lt x.plus x.minus) (le-or-lt x.minus x.plus)
      where
        above : (x : Int) → x ⊠ x ≼ 0Int → 0Int ≺ x → ⊥
        above x h k = omega (arith, ⊠-pos x x k k)

        go : (x.plus ≤ x.minus) ⊎ (x.minus < x.plus) → (x.minus ≤ x.plus) ⊎ (x.plus < x.minus) → x ≃ 0Int
        go (inl i) (inl j) = omega arith
        go (inr i) j = absurd (above x h (omega arith))
        go (inl i) (inr j) = absurd (above (neg x) (omega (arith, ring (negated (var 0) :* negated (var 0)) (var 0 :* var 0) (x ∷ []) tt)) (omega arith))

-- the nearest places of what two solves keep, m places and then m': the second is shorter, or as long and something else besides
pub record Descent (m : ℕ) (kept : ℕ → Point) (m' : ℕ) (kept' : ℕ → Point) (Else : Type 0) : Type 0 where
  pub before : NearestOf m kept
  pub after : NearestOf m' kept'
  pub falls : (squared_length m' kept' after.weight <ᶠ squared_length m kept before.weight)
      ⊎ ((squared_length m' kept' after.weight ≃ᶠ squared_length m kept before.weight) × Else)

module _ {d d' : Point} {m n m' n' : ℕ} {kept held kept' held' : ℕ → Point} (K : Kept d m kept n held) (K' : Kept d' m' kept' n' held')
    (still-held : (i : ℕ) → i < m → dot d' (kept i) ≼ K'.level) where
  abbrev u : Point
  u = weighted_sum m K.weight kept

  abbrev u' : Point
  u' = weighted_sum m' K'.weight kept'

  abbrev k : Int
  k = of_nat (total m K.weight)

  abbrev k' : Int
  k' = of_nat (total m' K'.weight)

  u-beyond : k ⊠ dot u' u' ≼ k' ⊠ dot u' u
  u-beyond =
      beyond d' u' u k' (of_nat K'.times) K'.level k (omega arith) (omega (arith, K'.forth)) K'.along-x K'.along-y K'.flat
      (omega (arith, sum-at-most K.weight m (λ i. dot d' (kept i)) K'.level still-held, dot-of-sum K.weight m kept d'))

  -- as long: the same place
  same_place : k' ⊠ k' ⊠ dot u u ≼ k ⊠ k ⊠ dot u' u' → (k' ⊠ u.x ⊟ k ⊠ u'.x ≃ 0Int) × (k' ⊠ u.y ⊟ k ⊠ u'.y ≃ 0Int)
  same_place h =
      let x = var 4 :* var 2 :- var 5 :* var 0 in
      let y = var 4 :* var 3 :- var 5 :* var 1 in
      let mixed = var 5 :* (var 4 :* (var 0 :* var 2 :+ var 1 :* var 3)) in
      let own = var 5 :* (var 5 :* (var 0 :* var 0 :+ var 1 :* var 1)) in
      both_zero (k' ⊠ u.x ⊟ k ⊠ u'.x) (k' ⊠ u.y ⊟ k ⊠ u'.y) (omega (
        arith,
        ⊠-mono k (k ⊠ dot u' u') (k' ⊠ dot u' u) (omega arith) u-beyond,
        ring (x :* x :+ y :* y) (var 4 :* var 4 :* (var 2 :* var 2 :+ var 3 :* var 3) :- mixed :- mixed :+ own) (u'.x ∷ u'.y ∷ u.x ∷ u.y ∷ k' ∷ k ∷ []) tt,
        ring (var 0 :* (var 0 :* var 1)) (var 0 :* var 0 :* var 1) (k ∷ dot u' u' ∷ []) tt,
      ))

  same_way : (k' ⊠ u.x ⊟ k ⊠ u'.x ≃ 0Int) × (k' ⊠ u.y ⊟ k ⊠ u'.y ≃ 0Int) → Along d d'
  same_way (ex, ey) =
      let t = of_nat K.times in
      let t' = of_nat K'.times in
      let part : (x x' y y' : Int) → y ≃ neg (t ⊠ x) → y' ≃ neg (t' ⊠ x') → k' ⊠ x ⊟ k ⊠ x' ≃ 0Int → k' ⊠ t' ⊠ y ≃ k ⊠ t ⊠ y' =
      λ x x' y y' h h' e. omega (
        arith,
        ⊠-cong-r (k' ⊠ t') y (neg (t ⊠ x)) h,
        ⊠-cong-r (k ⊠ t) y' (neg (t' ⊠ x')) h',
        ⊠-cong-r (t ⊠ t') (k' ⊠ x) (k ⊠ x') (omega arith),
        ring (var 0 :* var 2 :* negated (var 1 :* var 3)) (negated (var 1 :* var 2 :* (var 0 :* var 3))) (k' ∷ t ∷ t' ∷ x ∷ []) tt,
        ring (var 0 :* var 1 :* negated (var 2 :* var 3)) (negated (var 1 :* var 2 :* (var 0 :* var 3))) (k ∷ t ∷ t' ∷ x' ∷ []) tt,
      ) in
      record {
        ours = k' ⊠ t';
        theirs = k ⊠ t;
        ours-some = ⊠-pos k' t' (omega (arith, K'.some)) (omega (arith, K'.forth));
        theirs-some = ⊠-pos k t (omega (arith, K.some)) (omega (arith, K.forth));
        equal-x = part u.x u'.x d.x d'.x K.along-x K'.along-x ex;
        equal-y = part u.y u'.y d.y d'.y K.along-y K'.along-y ey;
      }

  abbrev Shorter : Type 0
  Shorter = squared_length m' kept' K'.weight <ᶠ squared_length m kept K.weight

  abbrev AsLong : Type 0
  AsLong = squared_length m' kept' K'.weight ≃ᶠ squared_length m kept K.weight

  pub shorter-or-same-way : Descent m kept m' kept' (Along d d')
  unfolding nearest-of-kept
  shorter-or-same-way = record {
    before = nearest-of-kept K;
    after = nearest-of-kept K';
    falls = go
        (le-or-lt (ours.plus + theirs.minus) (theirs.plus + ours.minus));
  }
    where
      ours : Int
      ours = k' ⊠ k' ⊠ dot u u

      theirs : Int
      theirs = k ⊠ k ⊠ dot u' u'

      go : (k' ⊠ k' ⊠ dot u u ≼ k ⊠ k ⊠ dot u' u') ⊎ (k ⊠ k ⊠ dot u' u' ≺ k' ⊠ k' ⊠ dot u u) → Shorter ⊎ (AsLong × Along d d')
      go (inl h) = inr (omega (arith, no-nearer u' u k' k (omega arith) u-beyond), same_way (same_place h))
      go (inr h) = inl h

-- nothing is shorter than the origin, to which the next solve comes
pub shorter-at-origin : {d : Point} {m n n' : ℕ} {kept held held' : ℕ → Point} {Else : Type 0} → Kept d m kept n held → 0Int ≺ dot d d → Covered n' held'
    → Descent m kept n' held' Else
unfolding nearest-of-kept nearest-of-covered
shorter-at-origin {d} {m} {n' = n'} {kept = kept} {held' = held'} K far c = record
    { before = nearest-of-kept K; after = nearest-of-covered c; falls = inl shorter }
  where
    shorter : squared_length n' held' c.weight <ᶠ squared_length m kept K.weight
    shorter =
        let u = weighted_sum m K.weight kept in
        let u' = weighted_sum n' c.weight held' in
        let k = of_nat (total m K.weight) in
        let k' = of_nat (total n' c.weight) in
        omega (
          arith,
          ⊠-cong-r (k ⊠ k) (dot u' u') 0Int (no_way u' u' c.zero-x c.zero-y),
          ⊠-zero (k ⊠ k),
          ⊠-pos (k' ⊠ k') (dot u u) (⊠-pos k' k' (omega (arith, c.some)) (omega (arith, c.some))) (kept-off-origin K far),
        )
