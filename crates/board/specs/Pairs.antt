-- Signed numbers as pairs of naturals, plus less minus; their size is plus and minus together, so sizes multiply and add as the numbers do.
use Rattle.std.specs.Prelude.{ℕ, ◌+◌, ◌*◌, ◌≤◌, ◌<◌}
use Rattle.integers.specs.Signed.{Int, ◌⊞◌, ◌≃◌}
use Rattle.plane.specs.Plane.{Point}
use Rattle.board.specs.declared.Pair.{Pair}
use Rattle.board.specs.declared.Vector.{Vector}

-- 2 to the 64
abbrev pub limit : ℕ
limit = 18446744073709551616

abbrev pub int_of : Pair → Int
int_of a = record { plus = a.p; minus = a.m }

abbrev pub size_of : Pair → ℕ
size_of a = a.p + a.m

abbrev pub point_of : Vector → Point
point_of a = record { x = int_of a.x; y = int_of a.y }

-- no part is above s in size
pub record Sized (s : ℕ) (a : Vector) : Type 0 where
  pub x : size_of a.x ≤ s
  pub y : size_of a.y ≤ s

-- two factors, whose sizes have a product that is c times within what fits
pub record Factors (c : ℕ) (a b : Pair) (sa sb : ℕ) : Type 0 where
  pub left : size_of a ≤ sa
  pub right : size_of b ≤ sb
  pub fits : c * (sa * sb) < limit

pub record VectorFactors (c : ℕ) (a b : Vector) (sa sb : ℕ) : Type 0 where
  pub left : Sized sa a
  pub right : Sized sb b
  pub fits : c * (sa * sb) < limit

-- r is the number z, and at most s in size
pub record Is (z : Int) (s : ℕ) (r : Pair) : Type 0 where
  pub is : int_of r ≃ z
  pub small : size_of r ≤ s

pub record IsPoint (z : Point) (s : ℕ) (r : Vector) : Type 0 where
  pub is_x : int_of r.x ≃ z.x
  pub is_y : int_of r.y ≃ z.y
  pub small : Sized s r

-- r is a / F, off by less than 1, and not larger
pub record Divided (F : ℕ) (a r : Pair) : Type 0 where
  pub upper : a.p + F * r.m < F * r.p + a.m + F
  pub lower : F * r.p + a.m < a.p + F * r.m + F
  pub small : F * (r.p + r.m) ≤ a.p + a.m

pub record DividedPoint (F : ℕ) (a r : Vector) : Type 0 where
  pub x : Divided F a.x r.x
  pub y : Divided F a.y r.y
