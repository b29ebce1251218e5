-- What is said of a planned move as a whole. A job is two outlines and 24 numbers, as a sweep has them: the radii, the max fraction and the slop, then of
-- each body the local centre, the first and the last centre, the first and the last rotation.
--
-- On the way a body's centre goes straight from the first to the last, and its rotation points the way of the blend of the two rotations and has length 1.
-- All numbers are f32, so that they are fractions; only the length 1 asks for a root, which is seldom a fraction. So a turn is every vector of the right
-- direction whose squared length is 1 but for 2^-30, and what is said is said for all of them: the true one lies between them. Nothing is rounded.
use Rattle.std.specs.Prelude.{List, ℕ, ◌+◌, ◌-◌, ◌/◌, ◌≤◌, Float, length}
use Rattle.std.proofs.Common.{arith}
use Rattle.std.specs.Float.{binary32}
use Rattle.std.specs.Float.Ieee.{to_bits}
use Rattle.integers.specs.Signed.{Int, of_nat}
use Rattle.model.specs.declared.Vector.{Vector}
use Rattle.model.specs.Support.{point}
use Rattle.plane.specs.Plane.{Point, difference}
use Rattle.plane.specs.Fraction.{Fraction, ◌≤ᶠ◌, ◌<ᶠ◌}
use Rattle.whole_move.specs.Piece.{Moment}
use Rattle.whole_way.specs.Mover.{Mover, share, AwayBetween}
use Rattle.whole_touch.specs.Touch.{TouchAt}
use Rattle.grid.specs.Units.{size, value}
use Rattle.grid.specs.Grid.{unit}

-- what an f32 is worth, in units of 2^-149; and an f32 as a fraction
abbrev pub worth_of : Float → Int
worth_of x = value (to_bits binary32 x)

abbrev pub size_of : Float → ℕ
size_of x = size (to_bits binary32 x)

abbrev pub place_of : Vector → Point
place_of v = record { x = worth_of v.x; y = worth_of v.y }

abbrev pub fraction_of : Float → Fraction
fraction_of x = record { top = worth_of x; bottom = of_nat unit }

-- the body of an outline whose move stands in the five pairs from pair i on, its corners seen from the local centre
abbrev pub body_of : (points numbers : List Float) (i : ℕ) → Mover
body_of points numbers i = record {
  count = length points / 2;
  corner = λ k. difference (place_of (point points k)) (place_of (point numbers i));
  centre1 = place_of (point numbers (i + 1));
  centre2 = place_of (point numbers (i + 2));
  heading1 = place_of (point numbers (i + 3));
  heading2 = place_of (point numbers (i + 4));
}

-- k / 2^24 of the way
abbrev pub moment_at : ℕ → Moment
moment_at k = record { u = 16777216 - k; w = k; some = omega arith }

abbrev pub larger_of : ℕ → ℕ → ℕ
larger_of a b = a + (b - a)

module _ (points_a points_b numbers : List Float) where
  abbrev pub body_a : Mover
  body_a = body_of points_a numbers 2

  abbrev pub body_b : Mover
  body_b = body_of points_b numbers 7

  -- the distance to keep: the larger of the slop and the sum of the radii, none of which is negative
  abbrev pub keep : ℕ
  keep = larger_of (size_of (point numbers 1).y) (size_of (point numbers 0).x + size_of (point numbers 0).y)

  -- the max fraction
  abbrev pub end : Fraction
  end = fraction_of (point numbers 1).x

  -- At each fraction from one to another, ends included, for every turn of either body, every point of A is farther than that from every point of B.
  abbrev pub Away : (from to : Fraction) → Type 0
  Away from to = AwayBetween 1073741824 keep body_a body_b from to

  -- At that moment there are a point of A and a point of B, the same for every turn of either body, that are no farther apart.
  abbrev pub Touching : Moment → Type 0
  Touching m = TouchAt m 1073741824 keep body_a body_b

  -- ---- the three answers of a look from the fraction `from` to the max fraction; u and t in 2^24-ths
  abbrev pub Clear : Float → Type 0
  Clear from = Away (fraction_of from) end

  -- what comes after u was not settled. Where u is not after `from`, nothing is said.
  pub record Open (from : Float) (u : ℕ) : Type 0 where
    pub before : share 16777216 u ≤ᶠ end
    pub clear : fraction_of from <ᶠ share 16777216 u → Away (fraction_of from) (share 16777216 u)

  -- the first contact comes not before u, and certainly by t
  pub record Touch (from : Float) (u t : ℕ) : Type 0 where
    pub order : u ≤ t
    pub before : share 16777216 t ≤ᶠ end
    pub clear : fraction_of from <ᶠ share 16777216 u → Away (fraction_of from) (share 16777216 u)
    pub touching : Touching (moment_at t)
