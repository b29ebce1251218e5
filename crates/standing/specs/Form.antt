-- What the code of the four forms computes and says. Turns are in 2^30-ths; the bodies that are spoken of are twice that large, as T is twice a control point.
use Rattle.std.specs.Prelude.{List, ℕ, ◌+◌, ◌*◌, ◌≤◌, ◌<◌, length}
use Rattle.integers.specs.Signed.{Int, 0Int, of_nat, ◌⊞◌, ◌⊠◌, ◌≺◌}
use Rattle.plane.specs.Plane.{Point, sum, scaled, dot, turned_back}
use Rattle.whole_move.specs.Piece.{Body, turned_by, control, Away}
use Rattle.board.specs.declared.Pair.{Pair}
use Rattle.board.specs.declared.Vector.{Vector}
use Rattle.board.specs.Pairs.{int_of, point_of, Sized}
use Rattle.board.specs.Corners.{axis_size, corner_of, Corners}
use Rattle.board.specs.declared.Arc.{Arc}

-- 2^30 times: with the number written out, so that `omega` sees a sum
abbrev pub times30 : Int → Int
times30 z = record { plus = 1073741824 * z.plus; minus = 1073741824 * z.minus }

-- r is z / 2^30, off by less than 1
pub record Rounds (z : Int) (r : Pair) : Type 0 where
  pub upper : z.plus + 1073741824 * r.m < 1073741824 * r.p + z.minus + 1073741824
  pub lower : 1073741824 * r.p + z.minus < z.plus + 1073741824 * r.m + 1073741824

pub record Leaned (z : Point) (r : Vector) : Type 0 where
  pub x : Rounds z.x r.x
  pub y : Rounds z.y r.y
  pub small : Sized axis_size r

-- m as the turn c0 sees it and n as the turn c1 does
abbrev pub seen : (m n c0 c1 : Point) → Point
seen m n c0 c1 = sum (turned_back c0.x c0.y m) (turned_back c1.x c1.y n)

-- ---- one form
abbrev pub turn_form : (m n c0 c1 v : Point) → Int
turn_form m n c0 c1 v = dot m (turned_by c0 v) ⊞ dot n (turned_by c1 v)

pub record Turns (m n c0 c1 : Vector) : Type 0 where
  pub m-small : Sized 268435456 m
  pub n-small : Sized 268435456 n
  pub c0-small : Sized 1207959552 c0
  pub c1-small : Sized 2415919104 c1

pub record Bounds (m n a0 a1 b0 b1 d0 d1 : Vector) (k : ℕ) (axs ays bxs bys : List ℕ) : Type 0 where
  pub turn-a : Turns m n a0 a1
  pub turn-b : Turns m n b0 b1
  pub d0-small : Sized 536870912 d0
  pub d1-small : Sized 1073741824 d1
  pub margin : k ≤ 2305843009213693952
  pub corners-a : Corners axs ays
  pub corners-b : Corners bxs bys

-- 2^61 is what both roundings to 2^30-ths take, at most
abbrev pub FormApart : (m n a0 a1 b0 b1 d0 d1 : Point) (k : ℕ) (axs ays bxs bys : List ℕ) → Type 0
FormApart m n a0 a1 b0 b1 d0 d1 k axs ays bxs bys = (i j : ℕ) → i < length axs → j < length bxs
    → turn_form m n a0 a1 (corner_of axs ays i) ⊞ times30 (of_nat k)
    ≺ turn_form m n b0 b1 (corner_of bxs bys j) ⊞ times30 (dot m d0 ⊞ dot n d1) ⊞ of_nat 2305843009213693952

-- ---- all four
abbrev pub doubled : Point → Point
doubled p = sum p p

abbrev pub origin : Point
origin = record { x = 0Int; y = 0Int }

-- a body whose centre goes straight from d0 to d2, in 2^31-ths
abbrev pub grid_body : (d0 d2 : Point) → Arc → List ℕ → List ℕ → Body
grid_body d0 d2 a xs ys = record {
  count = length xs;
  corner = corner_of xs ys;
  centre = record { p0 = scaled (of_nat 2147483648) d0; p1 = scaled (of_nat 1073741824) (sum d0 d2); p2 = scaled (of_nat 2147483648) d2 };
  turn = record { p0 = doubled (point_of a.p0); p1 = point_of a.t; p2 = doubled (point_of a.p2) };
}

-- k less what the roundings take, in 2^31-ths
abbrev pub lessened : ℕ → Int
lessened k = record { plus = 2147483648 * k; minus = 4611686018427387904 }

pub record ArcSmall (a : Arc) : Type 0 where
  pub p0 : Sized 1207959552 a.p0
  pub t : Sized 2415919104 a.t
  pub p2 : Sized 1207959552 a.p2

pub record FourBounds (n0 n1 : Vector) (a b : Arc) (d0 d2 : Vector) (k : ℕ) (axs ays bxs bys : List ℕ) : Type 0 where
  pub n0-small : Sized 268435456 n0
  pub n1-small : Sized 268435456 n1
  pub a_small : ArcSmall a
  pub b-small : ArcSmall b
  pub d0-small : Sized 536870912 d0
  pub d2-small : Sized 536870912 d2
  pub margin : k ≤ 768614336404564650
  pub corners-a : Corners axs ays
  pub corners-b : Corners bxs bys

abbrev pub AllAway : (n0 n1 : Vector) (a b : Arc) (d0 d2 : Vector) (k : ℕ) (axs ays bxs bys : List ℕ) → Type 0
AllAway n0 n1 a b d0 d2 k axs ays bxs bys = (i j : ℕ) → i < length axs → j < length bxs
    → Away (point_of n0) (point_of n1) (lessened k) (control (grid_body origin origin a axs ays) i) (control (grid_body (point_of d0) (point_of d2) b bxs bys) j)
