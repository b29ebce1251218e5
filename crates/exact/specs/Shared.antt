-- Two outlines that share a point; corners that span a nearest place. Fractions are compared by cross-multiplying.
use Rattle.std.specs.Prelude.{ℕ, ◌<◌, T, get_or}
use Rattle.integers.specs.Signed.{of_nat, ◌⊠◌, ◌≼◌, ◌≃◌}
use Rattle.model.specs.declared.SimplexCache.{SimplexCache}
use Rattle.model.specs.Distance.{cache_is_valid}
use Rattle.plane.specs.Plane.{Point, difference, dot, total, weighted_sum}
use Rattle.plane.specs.Outline.{Outline, PointOf, divisor, dividend, gap}

module _ (a b : Outline) where
  -- a point of a and a point of b are equal
  pub record SharesPoint : Type 0 where
    pub p : PointOf a
    pub q : PointOf b
    pub equal-x : divisor b q ⊠ (dividend a p).x ≃ divisor a p ⊠ (dividend b q).x
    pub equal-y : divisor b q ⊠ (dividend a p).y ≃ divisor a p ⊠ (dividend b q).y

  -- No point of a and point of b have a smaller squared distance than the two points that one list of weights gives, on n corners of a and n corners of b alike.
  abbrev pub NoneNearer : ℕ → (ℕ → ℕ) → (ℕ → Point) → (ℕ → Point) → Type 0
  NoneNearer n weight corner_a corner_b =
      let ours = difference (weighted_sum n weight corner_a) (weighted_sum n weight corner_b) in
      let divided = of_nat (total n weight) in
      (p : PointOf a) (q : PointOf b)
      → let theirs = divisor a p ⊠ divisor b q in
      theirs ⊠ theirs ⊠ dot ours ours ≼ divided ⊠ divided ⊠ dot (gap a b p q) (gap a b p q)

  -- the counted entries name corners, and weights on them give a nearest place
  pub record SpansNearestPlace (c : SimplexCache) : Type 0 where
    pub corners : T (cache_is_valid c a.count b.count)
    pub weight : ℕ → ℕ
    pub some : 0 < total c.count weight
    pub nearest : NoneNearer c.count weight (λ i. a.corner (get_or c.index_a i 0)) (λ i. b.corner (get_or c.index_b i 0))
