-- Outlines and their points, given by weights. A point is a weighted sum divided by the total of its weights; nothing is divided here.
use Rattle.std.specs.Prelude.{ℕ, ◌<◌}
use Rattle.integers.specs.Signed.{Int, of_nat}
use Rattle.plane.specs.Plane.{Point, difference, scaled, total, weighted_sum}

pub record Outline : Type 0 where
  pub count : ℕ
  pub corner : ℕ → Point

-- whole-number weights on an outline's corners, none below 0 and not all 0
pub record PointOf (o : Outline) : Type 0 where
  pub weight : ℕ → ℕ
  pub some : 0 < total o.count weight

module _ (o : Outline) (p : PointOf o) where
  abbrev pub divisor : Int
  divisor = of_nat (total o.count p.weight)

  abbrev pub dividend : Point
  dividend = weighted_sum o.count p.weight o.corner

module _ (a b : Outline) where
  -- the difference of a point of a and a point of b, times both divisors
  abbrev pub gap : PointOf a → PointOf b → Point
  gap p q = difference (scaled (divisor b q) (dividend a p)) (scaled (divisor a p) (dividend b q))
