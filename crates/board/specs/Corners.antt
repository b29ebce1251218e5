-- A body's corners as code holds them: two lists of naturals, each corner 2^29 below what the lists have.
use Rattle.std.specs.Prelude.{◌≡◌, List, ℕ, ◌+◌, ◌≤◌, ◌<◌, length, get_or}
use Rattle.integers.specs.Signed.{Int, of_nat, ◌⊞◌, ◌≼◌, ◌≺◌, ◌≃◌}
use Rattle.plane.specs.Plane.{Point, dot}
use Rattle.board.specs.declared.Pair.{Pair}
use Rattle.board.specs.declared.Vector.{Vector}
use Rattle.board.specs.Pairs.{int_of, point_of, Sized, size_of}

-- 24 times 2^58: what keeps a dot product of an axis and a corner above 0
abbrev pub offset : ℕ
offset = 6917529027641081856

-- 27 / 4 times 2^28: how large an axis may be
abbrev pub axis_size : ℕ
axis_size = 1811939328

abbrev pub place : ℕ → ℕ → Point
place x y = record { x = record { plus = x; minus = 536870912 }; y = record { plus = y; minus = 536870912 } }

abbrev pub corner_of : List ℕ → List ℕ → ℕ → Point
corner_of xs ys k = place (get_or xs k 0) (get_or ys k 0)

-- as many of both, and none above 2^30
pub record Corners (xs ys : List ℕ) : Type 0 where
  pub alike : length ys ≡ length xs
  pub small-x : (k : ℕ) → k < length xs → get_or xs k 0 ≤ 1073741824
  pub small-y : (k : ℕ) → k < length xs → get_or ys k 0 ≤ 1073741824

-- w along a place, above the offset
pub record Along (w : Vector) (x y r : ℕ) : Type 0 where
  pub is : of_nat r ≃ of_nat offset ⊞ dot (point_of w) (place x y)
  pub small : r ≤ 13835058055282163712

-- none of the first c corners lies further along w than r, less the offset
pub record Most (w : Vector) (xs ys : List ℕ) (c r : ℕ) : Type 0 where
  pub all : (k : ℕ) → k < c → of_nat offset ⊞ dot (point_of w) (corner_of xs ys k) ≼ of_nat r
  pub small : r ≤ 13835058055282163712

pub record Least (w : Vector) (xs ys : List ℕ) (r : ℕ) : Type 0 where
  pub all : (k : ℕ) → k < length xs → of_nat r ≼ of_nat offset ⊞ dot (point_of w) (corner_of xs ys k)
  pub small : r ≤ 13835058055282163712

-- every corner of b, and c more, lies beyond every corner of a by k
abbrev pub Beyond : (wa wb : Vector) (c : Pair) (k : ℕ) (axs ays bxs bys : List ℕ) → Type 0
Beyond wa wb c k axs ays bxs bys = (i j : ℕ) → i < length axs → j < length bxs
    → dot (point_of wa) (corner_of axs ays i) ⊞ of_nat k ≺ dot (point_of wb) (corner_of bxs bys j) ⊞ int_of c

pub record Bounded (wa wb : Vector) (c : Pair) (k : ℕ) (axs ays bxs bys : List ℕ) : Type 0 where
  pub axis-a : Sized axis_size wa
  pub axis-b : Sized axis_size wb
  pub centre : size_of c ≤ 864691128455135232
  pub margin : k ≤ 2305843009213693952
  pub corners-a : Corners axs ays
  pub corners-b : Corners bxs bys
