-- A kept place, along whose direction no pair of corners reaches further than the places held, is nearest over the whole outlines; if it is not the origin the outlines
-- share no point, and if it is they do. The reason: every point of the outlines' difference lies beyond the line through the kept place that stands across the direction.
-- Assumes nothing.
use mathlib.Core.List.{List, [], ◌∷◌}
use Prim.Native.Nat.{ℕ, ◌+◌, ◌*◌, ◌<◌}
use native.Mathlib.Omega.{arith}
use Rattle.integers.specs.Signed.{Int, 0Int, of_nat, neg, ◌⊞◌, ◌⊟◌, ◌⊠◌, ◌≼◌, ◌≺◌, ◌≃◌}
use Rattle.integers.specs.Polynomial.{var, ◌:+◌, ◌:-◌, ◌:*◌, negated}
use Rattle.integers.proofs.Signed.{⊠-neg, ⊠-zero, ⊠-nonneg, ⊠-cong, ⊠-cong-r, ⊠-square, ⊠-pos, ⊠-nonneg-back, ⊠-pos-back}
use Rattle.integers.proofs.Ring.{ring}
use Rattle.plane.specs.Plane.{Point, difference, opposite, scaled, dot, total, sum_below, weighted_sum}
use Rattle.plane.specs.Outline.{Outline, PointOf, divisor, dividend, gap}
use Rattle.exact.specs.Shared.{SharesPoint, NoneNearer}
use Rattle.exact.proofs.Kept.{Kept, Covered, dot-cong}
use Rattle.plane.proofs.Weights.{⊠-mono, dot-of-sum, sum-at-most, sum-at-least, sum-of-differences, on_corners, moved-to-corners}

-- ---- two points of the plane: u is K times the kept place, v is W times a point of the difference
-- along d, which is opposite to u, v lies no further than W times the level of u: then v lies beyond u
pub beyond : (d u v : Point) (K times level W : Int) → 0Int ≼ K → 0Int ≺ times → d.x ≃ neg (times ⊠ u.x) → d.y ≃ neg (times ⊠ u.y) → dot d u ≃ K ⊠ level
    → dot d v ≼ W ⊠ level
    → W ⊠ dot u u ≼ K ⊠ dot u v
beyond d u v K times level W h_k forth along-x along-y flat far =
    let back = opposite (scaled times u) in
    let goal : 0Int ≼ K ⊠ dot u v ⊟ W ⊠ dot u u =
    ⊠-nonneg-back times (K ⊠ dot u v ⊟ W ⊠ dot u u) forth (omega (
      arith,
      ⊠-mono K (dot d v) (W ⊠ level) h_k far,
      ⊠-cong-r W (dot d u) (K ⊠ level) flat,
      ⊠-cong-r K (dot d v) (dot back v) (dot-cong d back v along-x along-y),
      ⊠-cong-r W (dot d u) (dot back u) (dot-cong d back u along-x along-y),
      ring (var 0 :* (var 1 :* var 2)) (var 1 :* (var 0 :* var 2)) (K ∷ W ∷ level ∷ []) tt,
      ring (var 6 :* (var 4 :* (var 0 :* var 2 :+ var 1 :* var 3) :- var 5 :* (var 0 :* var 0 :+ var 1 :* var 1)))
          (var 5 :* (negated (var 6 :* var 0) :* var 0 :+ negated (var 6 :* var 1) :* var 1) :- var 4 :*
          (negated (var 6 :* var 0) :* var 2 :+ negated (var 6 :* var 1) :* var 3))
          (u.x ∷ u.y ∷ v.x ∷ v.y ∷ K ∷ W ∷ times ∷ []) tt,
    )) in
    omega arith

-- what lies beyond u is no nearer to the origin than u
pub no-nearer : (u v : Point) (K W : Int) → 0Int ≼ W → W ⊠ dot u u ≼ K ⊠ dot u v → W ⊠ W ⊠ dot u u ≼ K ⊠ K ⊠ dot v v
no-nearer u v K W h_w h =
    let ρ : List Int = u.x ∷ u.y ∷ v.x ∷ v.y ∷ K ∷ W ∷ [] in
    let x = var 4 :* var 2 :- var 5 :* var 0 in
    let y = var 4 :* var 3 :- var 5 :* var 1 in
    let across = var 5 :* (var 4 :* (var 0 :* var 2 :+ var 1 :* var 3)) in
    let own = var 5 :* (var 5 :* (var 0 :* var 0 :+ var 1 :* var 1)) in
    omega (
      arith,
      ⊠-square (K ⊠ v.x ⊟ W ⊠ u.x),
      ⊠-square (K ⊠ v.y ⊟ W ⊠ u.y),
      ⊠-mono W (W ⊠ dot u u) (K ⊠ dot u v) h_w h,
      ring (x :* x :+ y :* y) (var 4 :* var 4 :* (var 2 :* var 2 :+ var 3 :* var 3) :- across :- across :+ own) ρ tt,
      ring own (var 5 :* var 5 :* (var 0 :* var 0 :+ var 1 :* var 1)) ρ tt,
    )

-- where there is a direction, the kept place is not the origin
pub kept-off-origin : {d : Point} {m : ℕ} {kept : ℕ → Point} {n : ℕ} {held : ℕ → Point} (K : Kept d m kept n held) → 0Int ≺ dot d d
    → 0Int ≺ dot (weighted_sum m K.weight kept) (weighted_sum m K.weight kept)
kept-off-origin {d} {m} {kept} K far =
    let u = weighted_sum m K.weight kept in
    let t = of_nat K.times in
    let back = opposite (scaled t u) in
    let x = negated (var 0 :* var 1) in
    let y = negated (var 0 :* var 2) in
    ⊠-pos-back (t ⊠ t) (dot u u) (⊠-square t) (omega (
      arith,
      ⊠-cong d.x back.x d.x back.x K.along-x K.along-x,
      ⊠-cong d.y back.y d.y back.y K.along-y K.along-y,
      ring (var 0 :* var 0 :* (var 1 :* var 1 :+ var 2 :* var 2)) (x :* x :+ y :* y) (t ∷ u.x ∷ u.y ∷ []) tt,
    ))

module _ (a b : Outline) where
  -- along d a point of the difference lies no further than its corners do
  pub within-reach : (d : Point) (i j : ℕ) → ((k : ℕ) → k < a.count → dot d (a.corner k) ≼ dot d (a.corner i))
      → ((k : ℕ) → k < b.count → dot d (b.corner j) ≼ dot d (b.corner k))
      → (p : PointOf a) (q : PointOf b) → dot d (gap a b p q) ≼ divisor a p ⊠ divisor b q ⊠ dot d (difference (a.corner i) (b.corner j))
  within-reach d i j top_a top_b p q =
      let A = divisor a p in
      let B = divisor b q in
      let P = dividend a p in
      let Q = dividend b q in
      let m_a = dot d (a.corner i) in
      let m_b = dot d (b.corner j) in
      let sum_a = sum_below a.count (λ k. of_nat (p.weight k) ⊠ dot d (a.corner k)) in
      let sum_b = sum_below b.count (λ k. of_nat (q.weight k) ⊠ dot d (b.corner k)) in
      omega (
        arith,
        ⊠-mono B sum_a (A ⊠ m_a) (omega arith) (sum-at-most p.weight a.count (λ k. dot d (a.corner k)) m_a top_a),
        ⊠-mono A (B ⊠ m_b) sum_b (omega arith) (sum-at-least q.weight b.count (λ k. dot d (b.corner k)) m_b top_b),
        ⊠-cong-r B sum_a (dot d P) (dot-of-sum p.weight a.count a.corner d),
        ⊠-cong-r A sum_b (dot d Q) (dot-of-sum q.weight b.count b.corner d),
        ring (var 0 :* var 1 :* (var 2 :* (var 4 :- var 6) :+ var 3 :* (var 5 :- var 7)))
            (var 1 :* (var 0 :* (var 2 :* var 4 :+ var 3 :* var 5)) :- var 0 :* (var 1 :* (var 2 :* var 6 :+ var 3 :* var 7)))
            (A ∷ B ∷ d.x ∷ d.y ∷ (a.corner i).x ∷ (a.corner i).y ∷ (b.corner j).x ∷ (b.corner j).y ∷ []) tt,
        ring (var 2 :* (var 1 :* var 4 :- var 0 :* var 6) :+ var 3 :* (var 1 :* var 5 :- var 0 :* var 7))
            (var 1 :* (var 2 :* var 4 :+ var 3 :* var 5) :- var 0 :* (var 2 :* var 6 :+ var 3 :* var 7))
            (A ∷ B ∷ d.x ∷ d.y ∷ P.x ∷ P.y ∷ Q.x ∷ Q.y ∷ []) tt,
      )

  -- ---- the places of pairs of corners
  abbrev pub pair : ℕ → ℕ → Point
  pair i j = difference (a.corner i) (b.corner j)

  -- m pairs by their names, and weights on them
  module _ (name_a name_b : ℕ → ℕ) (m : ℕ) (weight : ℕ → ℕ) where
    abbrev kept : ℕ → Point
    kept i = pair (name_a i) (name_b i)

    abbrev sum_a : Point
    sum_a = weighted_sum m weight (λ i. a.corner (name_a i))

    abbrev sum_b : Point
    sum_b = weighted_sum m weight (λ i. b.corner (name_b i))

    kept-x : (weighted_sum m weight kept).x ≃ (difference sum_a sum_b).x
    kept-x = sum-of-differences weight m (λ i. (a.corner (name_a i)).x) (λ i. (b.corner (name_b i)).x)

    kept-y : (weighted_sum m weight kept).y ≃ (difference sum_a sum_b).y
    kept-y = sum-of-differences weight m (λ i. (a.corner (name_a i)).y) (λ i. (b.corner (name_b i)).y)

  -- the origin is a weighted mean of places of pairs: the outlines share the point of these weights
  pub covered-shares : (name_a name_b : ℕ → ℕ) (m : ℕ) → ((i : ℕ) → i < m → name_a i < a.count) → ((i : ℕ) → i < m → name_b i < b.count)
      → Covered m (λ i. pair (name_a i) (name_b i)) → SharesPoint a b
  covered-shares name_a name_b m in_a in_b c =
      let w = c.weight in
      let w_a = on_corners name_a m w in
      let w_b = on_corners name_b m w in
      let (t_a, x_a) = moved-to-corners (λ i. (a.corner i).x) name_a a.count m w in_a in
      let (_, y_a) = moved-to-corners (λ i. (a.corner i).y) name_a a.count m w in_a in
      let (t_b, x_b) = moved-to-corners (λ i. (b.corner i).x) name_b b.count m w in_b in
      let (_, y_b) = moved-to-corners (λ i. (b.corner i).y) name_b b.count m w in_b in
      let p : PointOf a = record { weight = w_a; some = omega (arith, c.some) } in
      let q : PointOf b = record { weight = w_b; some = omega (arith, c.some) } in
      record {
        p = p;
        q = q;
        equal-x = ⊠-cong (divisor b q) (divisor a p) (dividend a p).x (dividend b q).x (omega arith) (omega (arith, c.zero-x, kept-x name_a name_b m w));
        equal-y = ⊠-cong (divisor b q) (divisor a p) (dividend a p).y (dividend b q).y (omega arith) (omega (arith, c.zero-y, kept-y name_a name_b m w));
      }

  -- ---- what was kept, when the furthest pair (i, j) along d lies no further than the places held
  module _ (name_a name_b : ℕ → ℕ) {d : Point} {m n : ℕ} {held : ℕ → Point} (K : Kept d m (λ i. pair (name_a i) (name_b i)) n held) where
    abbrev u : Point
    u = weighted_sum m K.weight (λ i. pair (name_a i) (name_b i))

    -- no direction to search: the kept place is the origin
    pub no-direction : d.x ≃ 0Int → d.y ≃ 0Int → Covered m (λ i. pair (name_a i) (name_b i))
    no-direction hx hy =
        record { weight = K.weight; some = K.some; zero-x = none u.x d.x K.along-x hx; zero-y = none u.y d.y K.along-y hy }
      where
        none : (x z : Int) → z ≃ neg (of_nat K.times ⊠ x) → z ≃ 0Int → x ≃ 0Int
        none x z i j =
            let p : 0Int ≼ x = ⊠-nonneg-back (of_nat K.times) x (omega (arith, K.forth)) (omega arith) in
            let q : 0Int ≼ neg x = ⊠-nonneg-back (of_nat K.times) (neg x) (omega (arith, K.forth)) (omega (arith, ⊠-neg (of_nat K.times) x)) in
            omega arith

    module _ (i j : ℕ) (top_a : (k : ℕ) → k < a.count → dot d (a.corner k) ≼ dot d (a.corner i))
        (top_b : (k : ℕ) → k < b.count → dot d (b.corner j) ≼ dot d (b.corner k))
        (level : dot d (pair i j) ≼ K.level) where
      all-beyond : (p : PointOf a) (q : PointOf b) → divisor a p ⊠ divisor b q ⊠ dot u u ≼ of_nat (total m K.weight) ⊠ dot u (gap a b p q)
      all-beyond p q =
          let W = divisor a p ⊠ divisor b q in
          let h_w = ⊠-nonneg (divisor a p) (divisor b q) (omega arith) (omega arith) in
          let far : dot d (gap a b p q) ≼ W ⊠ K.level = omega (arith, within-reach d i j top_a top_b p q, ⊠-mono W (dot d (pair i j)) K.level h_w level) in
          beyond d u (gap a b p q) (of_nat (total m K.weight)) (of_nat K.times) K.level W (omega arith) (omega (arith, K.forth)) K.along-x
          K.along-y K.flat far

      pub none-nearer : NoneNearer a b m K.weight (λ i. a.corner (name_a i)) (λ i. b.corner (name_b i))
      none-nearer p q =
          let W = divisor a p ⊠ divisor b q in
          let h_w = ⊠-nonneg (divisor a p) (divisor b q) (omega arith) (omega arith) in
          let ours = difference (sum_a name_a name_b m K.weight) (sum_b name_a name_b m K.weight) in
          let ex = kept-x name_a name_b m K.weight in
          let ey = kept-y name_a name_b m K.weight in
          let same : dot u u ≃ dot ours ours = omega (arith, ⊠-cong u.x ours.x u.x ours.x ex ex, ⊠-cong u.y ours.y u.y ours.y ey ey) in
          omega (arith, no-nearer u (gap a b p q) (of_nat (total m K.weight)) W h_w (all-beyond p q), ⊠-cong-r (W ⊠ W) (dot u u) (dot ours ours) same)

      -- there is a direction, so the kept place is not the origin, and no shared point lies beyond it
      pub none-shared : 0Int ≺ d.x ⊠ d.x ⊞ d.y ⊠ d.y → SharesPoint a b → ⊥
      none-shared far sh =
          let p = sh.p in
          let q = sh.q in
          let v = gap a b p q in
          let W = divisor a p ⊠ divisor b q in
          let K' = of_nat (total m K.weight) in
          let h_w : 0Int ≺ W = ⊠-pos (divisor a p) (divisor b q) (omega (arith, p.some)) (omega (arith, q.some)) in
          let uu = kept-off-origin K far in
          let zx : u.x ⊠ v.x ≃ u.x ⊠ 0Int = ⊠-cong-r u.x v.x 0Int (omega (arith, sh.equal-x)) in
          let zy : u.y ⊠ v.y ≃ u.y ⊠ 0Int = ⊠-cong-r u.y v.y 0Int (omega (arith, sh.equal-y)) in
          let zz : K' ⊠ dot u v ≃ K' ⊠ 0Int = ⊠-cong-r K' (dot u v) 0Int (omega (arith, ⊠-zero u.x, ⊠-zero u.y)) in
          clash (W ⊠ dot u u) (⊠-pos W (dot u u) h_w uu) (omega (arith, all-beyond p q, ⊠-zero K'))
        where
          clash : (x : Int) → 0Int ≺ x → x ≼ 0Int → ⊥
          clash x h k = omega arith
