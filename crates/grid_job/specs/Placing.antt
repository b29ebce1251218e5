-- How the numbers of a job come to stand on the grid.
use Rattle.std.specs.Prelude.{◌≡◌, List, [], ℕ, ◌+◌, ◌*◌, ◌/◌, ◌%◌, ◌^◌, ◌≤◌, ◌<◌, Float, length, get_or}
use Rattle.std.specs.Float.{binary32, nan}
use Rattle.std.specs.Float.Ieee.{to_bits}
use Rattle.integers.specs.Signed.{Int, 0Int, of_nat, ◌⊞◌, ◌⊟◌, ◌⊠◌, ◌≼◌, ◌≺◌}
use Rattle.integers.specs.Whole.{Within}
use Rattle.plane.specs.Plane.{Point, difference, dot}
use Rattle.model.specs.declared.Vector as model
use Rattle.model.specs.Support.{point}
use Rattle.board.specs.declared.Pair.{Pair}
use Rattle.board.specs.declared.Vector.{Vector}
use Rattle.board.specs.Pairs.{int_of, point_of, Sized}
use Rattle.board.specs.Pairs as pairs
use Rattle.board.specs.Corners.{place, corner_of, Corners}
use Rattle.board.specs.declared.GridBody.{GridBody}
use Rattle.board.specs.declared.GridJob.{GridJob}
use Rattle.board.specs.Board.{Inside, BodyFits, Fits, CloseTo, StandsForBody, StandsFor}
use Rattle.grid.specs.Grid.{unit, Reaches}
use Rattle.planned.specs.Planned.{worth_of, place_of, body_of, body_a, body_b, keep}

-- a number that is below 2^28 on the grid
abbrev pub Near : Float → ℕ → Type 0
Near x g = Reaches 268435456 (to_bits binary32 x) g

-- ---- the exponent
-- no pattern from one place to another, its sign dropped, is above a
abbrev pub UpTo : List Float → (from to a : ℕ) → Type 0
UpTo xs from to a = (k : ℕ) → from ≤ k → k < to → to_bits binary32 (get_or xs k nan) % 2147483648 ≤ a

abbrev pub AllNear : List Float → (from to g : ℕ) → Type 0
AllNear xs from to g = (k : ℕ) → from ≤ k → k < to → Near (get_or xs k nan) g

-- all places, but neither the max fraction nor the rotations
pub record Suits (points_a points_b numbers : List Float) (g : ℕ) : Type 0 where
  pub a : AllNear points_a 0 (length points_a) g
  pub b : AllNear points_b 0 (length points_b) g
  pub radii : AllNear numbers 0 2 g
  pub slop : AllNear numbers 3 4 g
  pub move_a : AllNear numbers 4 10 g
  pub move_b : AllNear numbers 14 20 g

-- a job in the domain, by its patterns: no place is above 2^20 in size, no part of a rotation above 1
pub record Ordinary (points_a points_b numbers : List Float) : Type 0 where
  pub a : UpTo points_a 0 (length points_a) 1233125376
  pub b : UpTo points_b 0 (length points_b) 1233125376
  pub radii : UpTo numbers 0 2 1233125376
  pub move_a : UpTo numbers 3 10 1233125376
  pub move_b : UpTo numbers 14 20 1233125376
  pub turns_a : UpTo numbers 10 14 1065353216
  pub turns_b : UpTo numbers 20 24 1065353216

-- and lists of the lengths that it asks for
pub record Fitting (points_a points_b numbers : List Float) (axs ays bxs bys : List ℕ) : Type 0 where
  pub count : length numbers ≡ 24
  pub count_a : length axs ≡ length points_a / 2
  pub alike_a : length ays ≡ length axs
  pub count_b : length bxs ≡ length points_b / 2
  pub alike_b : length bys ≡ length bxs
  pub ordinary : Ordinary points_a points_b numbers

-- ---- single numbers
-- r stands for x less c
pub record Less (x c : Float) (g : ℕ) (r : Pair) : Type 0 where
  pub near : Within (2 * unit) (of_nat (2 ^ g) ⊠ (worth_of x ⊟ worth_of c) ⊟ of_nat unit ⊠ int_of r)
  pub small : pairs.size_of r ≤ 536870912

-- the same, 2^29 above it
pub record Offset (x c : Float) (g r : ℕ) : Type 0 where
  pub near : Within (2 * unit) (of_nat (2 ^ g) ⊠ (worth_of x ⊟ worth_of c) ⊟ of_nat unit ⊠ record { plus = r; minus = 536870912 })
  pub small : r ≤ 1073741824

pub record Span (x y r : ℕ) : Type 0 where
  pub reach : dot (place x y) (place x y) ≼ of_nat r ⊠ of_nat r
  pub small : r ≤ 805306368

-- a part of a rotation, in 2^30-ths, where it is at most that large
pub record Turned (x : Float) (r : Pair) : Type 0 where
  pub near : pairs.size_of r ≤ 1073741824 → Within unit (of_nat 1073741824 ⊠ worth_of x ⊟ of_nat unit ⊠ int_of r)
  pub small : to_bits binary32 x % 2147483648 ≤ 1065353216 → pairs.size_of r ≤ 1073741824

pub record Headed (q : model.Vector) (r : Vector) : Type 0 where
  pub x : Turned q.x r.x
  pub y : Turned q.y r.y

-- ---- corners
pub record Asked (points : List Float) (centre : model.Vector) (g : ℕ) (xs ys : List ℕ) : Type 0 where
  pub near : AllNear points 0 (length points) g
  pub near-x : Near centre.x g
  pub near-y : Near centre.y g
  pub count : length xs ≡ length points / 2
  pub alike : length ys ≡ length xs

-- the first c corners stand for the first c points
pub record Cornered (points : List Float) (centre : model.Vector) (g : ℕ) (xs ys : List ℕ) (c R : ℕ) : Type 0 where
  pub close : (k : ℕ) → k < c → CloseTo (2 * unit) (of_nat (2 ^ g)) (difference (place_of (point points k)) (place_of centre)) (of_nat unit) (corner_of xs ys k)
  pub small-x : (k : ℕ) → k < c → get_or xs k 0 ≤ 1073741824
  pub small-y : (k : ℕ) → k < c → get_or ys k 0 ≤ 1073741824
  pub inside : Inside R xs ys c
  pub small : R ≤ 805306368

-- all of them
pub record AllCornered (points : List Float) (centre : model.Vector) (g : ℕ) (xs ys : List ℕ) (R : ℕ) : Type 0 where
  pub corners : Cornered points centre g xs ys (length xs) R
  pub count : length xs ≡ length points / 2
  pub alike : length ys ≡ length xs

-- a body by the five pairs from pair i on
pub record PlacedBody (points numbers : List Float) (i g : ℕ) (xs ys : List ℕ) (r : GridBody) : Type 0 where
  pub corners : AllCornered points (point numbers i) g xs ys r.reach
  pub first : Headed (point numbers (i + 3)) r.q1
  pub last : Headed (point numbers (i + 4)) r.q2

-- ---- pairs of numbers
pub record NearPair (numbers : List Float) (i g : ℕ) : Type 0 where
  pub x : Near (point numbers i).x g
  pub y : Near (point numbers i).y g

-- r stands for pair j less pair i
pub record Between (numbers : List Float) (i j g : ℕ) (r : Vector) : Type 0 where
  pub close : CloseTo (2 * unit) (of_nat (2 ^ g)) (difference (place_of (point numbers j)) (place_of (point numbers i))) (of_nat unit) (point_of r)
  pub small : Sized 536870912 r

abbrev pub keep_of : List Float → ℕ
keep_of numbers = keep [] [] numbers

-- the numbers that the job's rest needs
pub record Limits (numbers : List Float) (g : ℕ) : Type 0 where
  pub radii : NearPair numbers 0 g
  pub slop : Near (point numbers 1).y g
  pub start_a : NearPair numbers 3 g
  pub end_a : NearPair numbers 4 g
  pub start_b : NearPair numbers 8 g
  pub end_b : NearPair numbers 9 g

pub record Joined (numbers : List Float) (g : ℕ) (a b : GridBody) (job : GridJob) : Type 0 where
  pub first_a : Sized 1073741824 a.q1
  pub last_a : Sized 1073741824 a.q2
  pub first_b : Sized 1073741824 b.q1
  pub last_b : Sized 1073741824 b.q2
  pub is_a : job.a ≡ a
  pub is_b : job.b ≡ b
  pub centre1 : Between numbers 3 8 g job.d1
  pub centre2 : Between numbers 4 9 g job.d2
  pub up_small : job.up ≤ 1073741824
  pub up : 2 ^ g * keep_of numbers ≤ job.up * unit
  pub down : job.down * unit ≤ 2 ^ g * keep_of numbers

abbrev pub Steady : GridBody → Type 0
Steady o = Sized 1073741824 o.q1 × Sized 1073741824 o.q2

-- ---- the job
pub record OnBoard (points_a points_b numbers : List Float) (job : GridJob) (axs ays bxs bys : List ℕ) : Type 0 where
  pub g : ℕ
  pub fits : Fits job axs ays bxs bys
  pub stands : StandsFor unit (2 ^ g) job axs ays bxs bys (body_a points_a points_b numbers) (body_b points_a points_b numbers) (keep points_a points_b numbers)

-- ---- fractions of the way, in 2^24-ths
pub record FractionUp (x : Float) (r : ℕ) : Type 0 where
  pub small : r ≤ 4294967296
  pub least : to_bits binary32 x % 2147483648 ≤ 1065353216 → worth_of x ⊠ of_nat 16777216 ≼ of_nat r ⊠ of_nat unit
  pub near : to_bits binary32 x ≤ 1065353216 → of_nat r ⊠ of_nat unit ≺ worth_of x ⊠ of_nat 16777216 ⊞ of_nat unit

pub record FractionDown (x : Float) (r : ℕ) : Type 0 where
  pub small : r ≤ 4294967296
  pub most : to_bits binary32 x % 2147483648 ≤ 1065353216 → 0Int ≼ worth_of x → of_nat r ⊠ of_nat unit ≼ worth_of x ⊠ of_nat 16777216
  pub near : to_bits binary32 x ≤ 1065353216 → worth_of x ⊠ of_nat 16777216 ≺ of_nat r ⊠ of_nat unit ⊞ of_nat unit
