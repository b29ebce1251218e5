-- What rounding leaves of headings and turns.
use Rattle.std.specs.Prelude.{ℕ, ◌+◌, ◌-◌, ◌*◌, ◌≤◌, ◌<◌}
use Rattle.integers.specs.Signed.{Int, of_nat, ◌⊞◌, ◌⊠◌}
use Rattle.plane.specs.Plane.{Point}
use Rattle.board.specs.declared.Pair.{Pair}
use Rattle.board.specs.declared.Vector.{Vector}
use Rattle.board.specs.Pairs.{int_of, point_of, size_of, Sized}
use Rattle.board.specs.declared.Arc.{Arc}

-- r is z / F, off by less than 1
pub record Cut (F : ℕ) (z : Int) (r : Pair) : Type 0 where
  pub upper : z.plus + F * r.m < F * r.p + z.minus + F
  pub lower : F * r.p + z.minus < z.plus + F * r.m + F

-- k / 2^24 of the way from a to b
pub record Mid (k : ℕ) (a b r : Pair) : Type 0 where
  pub cut : Cut 16777216 (of_nat (16777216 - k) ⊠ int_of a ⊞ of_nat k ⊠ int_of b) r
  pub small : size_of r ≤ 1073741824

pub record MidVector (k : ℕ) (a b r : Vector) : Type 0 where
  pub x : Mid k a.x b.x r.x
  pub y : Mid k a.y b.y r.y

-- k a + l b, in 2^26-ths
pub record Stretched (k : ℕ) (a : Vector) (l : ℕ) (b r : Vector) : Type 0 where
  pub x : Cut 67108864 (of_nat k ⊠ int_of a.x ⊞ of_nat l ⊠ int_of b.x) r.x
  pub y : Cut 67108864 (of_nat k ⊠ int_of a.y ⊞ of_nat l ⊠ int_of b.y) r.y

pub record Bounds (k l : ℕ) (a b : Vector) : Type 0 where
  pub left : k ≤ 4294967296
  pub right : l ≤ 4294967296
  pub first : Sized 1073741824 a
  pub last : Sized 1073741824 b

-- the product of a line from L0 to L1 and a line from l0 to l1
pub record IsArc (l0 l1 : ℕ) (L0 L1 : Vector) (r : Arc) : Type 0 where
  pub p0 : Stretched l0 L0 0 L0 r.p0
  pub t : Stretched l0 L1 l1 L0 r.t
  pub p2 : Stretched l1 L1 0 L1 r.p2
