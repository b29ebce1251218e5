-- What a job on the grid stands for: two bodies on their planned way, and a distance to keep. The bodies' numbers, times `finer`, are the grid's times
-- `unit`, but for what the grid rounds.
use Rattle.std.specs.Prelude.{◌≡◌, List, ℕ, ◌*◌, ◌≤◌, ◌<◌, length}
use Rattle.integers.specs.Signed.{Int, of_nat, ◌⊟◌, ◌⊠◌, ◌≼◌}
use Rattle.integers.specs.Whole.{Within}
use Rattle.plane.specs.Plane.{Point, difference, scaled, dot}
use Rattle.whole_way.specs.Mover.{Mover, share, AwayBetween}
use Rattle.board.specs.declared.Vector.{Vector}
use Rattle.board.specs.Pairs.{point_of, Sized}
use Rattle.board.specs.Corners.{corner_of, Corners}
use Rattle.board.specs.declared.GridBody.{GridBody}
use Rattle.board.specs.declared.GridJob.{GridJob}

-- ---- sizes, which code may count on
-- the corners lie within R of the centre, as far as the first c of them go
abbrev pub Inside : (R : ℕ) (xs ys : List ℕ) (c : ℕ) → Type 0
Inside R xs ys c = (k : ℕ) → k < c → dot (corner_of xs ys k) (corner_of xs ys k) ≼ of_nat R ⊠ of_nat R

pub record BodyFits (o : GridBody) (xs ys : List ℕ) : Type 0 where
  pub first : Sized 1073741824 o.q1
  pub last : Sized 1073741824 o.q2
  pub near : o.reach ≤ 805306368
  pub corners : Corners xs ys
  pub inside : Inside o.reach xs ys (length xs)

pub record Fits (job : GridJob) (axs ays bxs bys : List ℕ) : Type 0 where
  pub body_a : BodyFits job.a axs ays
  pub body_b : BodyFits job.b bxs bys
  pub first : Sized 536870912 job.d1
  pub last : Sized 536870912 job.d2
  pub up_small : job.up ≤ 1073741824

-- ---- what it stands for
-- each part of q, times k, is within e of that part of p, times m
pub record CloseTo (e : ℕ) (m : Int) (p : Point) (k : Int) (q : Point) : Type 0 where
  pub x : Within e (m ⊠ p.x ⊟ k ⊠ q.x)
  pub y : Within e (m ⊠ p.y ⊟ k ⊠ q.y)

module _ (unit finer : ℕ) where
  pub record StandsForBody (body : GridBody) (xs ys : List ℕ) (o : Mover) : Type 0 where
    pub count : o.count ≡ length xs
    pub corner : (i : ℕ) → i < length xs → CloseTo (2 * unit) (of_nat finer) (o.corner i) (of_nat unit) (corner_of xs ys i)
    pub heading1 : CloseTo unit (of_nat 1073741824) o.heading1 (of_nat unit) (point_of body.q1)
    pub heading2 : CloseTo unit (of_nat 1073741824) o.heading2 (of_nat unit) (point_of body.q2)

  pub record StandsFor (job : GridJob) (axs ays bxs bys : List ℕ) (a b : Mover) (keep : ℕ) : Type 0 where
    pub some_unit : 0 < unit
    pub some_finer : 0 < finer
    pub body_a : StandsForBody job.a axs ays a
    pub body_b : StandsForBody job.b bxs bys b
    pub centre1 : CloseTo (2 * unit) (of_nat finer) (difference b.centre1 a.centre1) (of_nat unit) (point_of job.d1)
    pub centre2 : CloseTo (2 * unit) (of_nat finer) (difference b.centre2 a.centre2) (of_nat unit) (point_of job.d2)
    pub up : finer * keep ≤ job.up * unit
    pub down : job.down * unit ≤ finer * keep

-- ---- what a check says of a job on the grid: whatever it stands for is away from k0 / 2^24 of the way to k1 / 2^24 of it
abbrev pub ClearBetween : (job : GridJob) (k0 k1 : ℕ) (axs ays bxs bys : List ℕ) → Type 0
ClearBetween job k0 k1 axs ays bxs bys = (unit finer : ℕ) (a b : Mover) (keep : ℕ) → StandsFor unit finer job axs ays bxs bys a b keep
    → AwayBetween 1073741824 keep a b (share 16777216 k0) (share 16777216 k1)
