-- What the check of a touch finds, and what it says.
use Rattle.std.specs.Prelude.{◌≡◌, List, ℕ, ◌+◌, ◌-◌, ◌*◌, ◌≤◌, ◌<◌, length, get_or}
use Rattle.std.proofs.Common.{arith}
use Rattle.integers.specs.Signed.{Int, of_nat, ◌⊞◌, ◌⊟◌, ◌⊠◌, ◌≼◌, ◌≃◌}
use Rattle.plane.specs.Plane.{Point, dot}
use Rattle.whole_move.specs.Piece.{turned_by, Moment}
use Rattle.whole_way.specs.Mover.{Mover}
use Rattle.whole_touch.specs.Touch.{TouchAt}
use Rattle.board.specs.declared.Pair.{Pair}
use Rattle.board.specs.declared.Vector.{Vector}
use Rattle.board.specs.Pairs.{int_of, point_of, size_of, Sized}
use Rattle.board.specs.declared.GridBody.{GridBody}
use Rattle.board.specs.declared.GridJob.{GridJob}
use Rattle.board.specs.Board.{BodyFits, StandsFor}
use Rattle.standing.specs.Cut.{Cut, MidVector, Stretched}
use Rattle.board.specs.declared.Grip.{Grip}
use Rattle.board.specs.declared.Hold.{Hold}

-- ---- what is proposed
-- its corners are there, and its weights come to 2^28
pub record Names (g : Grip) (na nb : ℕ) : Type 0 where
  pub all : g.w0 + g.w1 + g.w2 ≡ 268435456
  pub a0 : g.i0 < na
  pub a1 : g.i1 < na
  pub a2 : g.i2 < na
  pub b0 : g.j0 < nb
  pub b1 : g.j1 < nb
  pub b2 : g.j2 < nb

-- ---- one point
-- a part that stands 2^29 above itself
abbrev pub raised : ℕ → Int
raised x = record { plus = x; minus = 536870912 }

pub record WeightedPart (x0 x1 x2 w0 w1 w2 : ℕ) (r : Pair) : Type 0 where
  pub cut : Cut 268435456 (of_nat w0 ⊠ raised x0 ⊞ of_nat w1 ⊠ raised x1 ⊞ of_nat w2 ⊠ raised x2) r
  pub small : size_of r ≤ 536870912

pub record Weighted (xs ys : List ℕ) (i0 i1 i2 w0 w1 w2 : ℕ) (r : Vector) : Type 0 where
  pub x : WeightedPart (get_or xs i0 0) (get_or xs i1 0) (get_or xs i2 0) w0 w1 w2 r.x
  pub y : WeightedPart (get_or ys i0 0) (get_or ys i1 0) (get_or ys i2 0) w0 w1 w2 r.y

-- r is v turned by q, in 2^30-ths
pub record TurnedDown (q v r : Vector) : Type 0 where
  pub x : Cut 1073741824 (turned_by (point_of q) (point_of v)).x r.x
  pub y : Cut 1073741824 (turned_by (point_of q) (point_of v)).y r.y
  pub small : Sized 1207959552 r

-- how many units each part of a lengthened heading is off by, at most
pub record Blur (l r : ℕ) : Type 0 where
  pub enough : l + 33554432 ≤ 33554432 * r
  pub most : 33554432 * r ≤ l + 67108864
  pub few : r ≤ 130

-- a squared length within z 2^30 of 2^60, with room for what a blur of r does to it
pub record Steady (P : Point) (r z : ℕ) : Type 0 where
  pub tame : z ≤ 134217728
  pub long : of_nat 1152921504606846976 ⊞ of_nat (4 * (r * (1207959552 + r))) ≼ dot P P ⊞ of_nat (1073741824 * z)
  pub short : dot P P ⊞ of_nat (4 * (r * (1207959552 + r))) ≼ of_nat 1152921504606846976 ⊞ of_nat (1073741824 * z)

-- Of one body, at k / 2^24 of the way: the turn P along its heading, its weighted point a, and x, where the turn places that. No turn in the window moves it by
-- more than E.
pub record Held (o : GridBody) (xs ys : List ℕ) (k l i0 i1 i2 w0 w1 w2 r E : ℕ) (P a x : Vector) : Type 0 where
  pub some : 0 < l
  pub blur : Blur l r
  pub heading : Vector
  pub mid : MidVector k o.q1 o.q2 heading
  pub stretched : Stretched l heading 0 heading P
  pub small : Sized 1207959552 P
  pub z : ℕ
  pub steady : Steady (point_of P) r z
  pub reach : 5 * ((o.reach + 3) * (z + 1)) ≤ 8589934592 * E
  pub point : Weighted xs ys i0 i1 i2 w0 w1 w2 a
  pub placed : TurnedDown P a x

pub record Ready (o : GridBody) (k : ℕ) (xs ys : List ℕ) (i0 i1 i2 w0 w1 w2 : ℕ) : Type 0 where
  pub fits : BodyFits o xs ys
  pub early : k ≤ 16777216
  pub named0 : i0 < length xs
  pub named1 : i1 < length xs
  pub named2 : i2 < length xs
  pub all : w0 + w1 + w2 ≡ 268435456

-- sizes that it has also where it is refused
pub record Loose (r : Hold) : Type 0 where
  pub place : Sized 1207959552 r.place
  pub blur : r.blur ≤ 130

pub record HeldAt (o : GridBody) (xs ys : List ℕ) (k l i0 i1 i2 w0 w1 w2 : ℕ) (r : Hold) : Type 0 where
  pub turn : Vector
  pub point : Vector
  pub held : Held o xs ys k l i0 i1 i2 w0 w1 w2 r.blur r.margin turn point r.place

-- ---- both
pub record Apart (a b c r : Pair) : Type 0 where
  pub is : int_of r ≃ int_of a ⊞ int_of b ⊟ int_of c
  pub small : size_of r ≤ 4294967296

abbrev pub Reached : Vector → ℕ → Type 0
Reached x room = dot (point_of x) (point_of x) ≼ of_nat room ⊠ of_nat room

pub record Close (job : GridJob) (k : ℕ) (a b : Hold) : Type 0 where
  pub early : k ≤ 16777216
  pub first : Sized 536870912 job.d1
  pub last : Sized 536870912 job.d2
  pub loose_a : Loose a
  pub loose_b : Loose b
  pub margin_a : a.margin < 4294967296
  pub margin_b : b.margin < 4294967296

pub record Decided (job : GridJob) (k : ℕ) (a b : Hold) : Type 0 where
  pub centre : Vector
  pub mid : MidVector k job.d1 job.d2 centre
  pub way : Vector
  pub way-x : int_of way.x ≃ int_of b.place.x ⊞ int_of centre.x ⊟ int_of a.place.x
  pub way-y : int_of way.y ≃ int_of b.place.y ⊞ int_of centre.y ⊟ int_of a.place.y
  pub room : ℕ
  pub reached : Reached way room
  pub enough : room + a.margin + b.margin + 30 + 2 * (a.blur + b.blur) ≤ job.down

-- All of it: the two points are at most `room` apart, and the distance to keep has that, both margins and what all roundings come to.
pub record Gripped (job : GridJob) (k : ℕ) (g : Grip) (axs ays bxs bys : List ℕ) : Type 0 where
  pub early : k ≤ 16777216
  pub names : Names g (length axs) (length bxs)
  pub ra : ℕ
  pub rb : ℕ
  pub ea : ℕ
  pub eb : ℕ
  pub turn_a : Vector
  pub turn_b : Vector
  pub point_a : Vector
  pub point_b : Vector
  pub place_a : Vector
  pub place_b : Vector
  pub held_a : Held job.a axs ays k g.la g.i0 g.i1 g.i2 g.w0 g.w1 g.w2 ra ea turn_a point_a place_a
  pub held_b : Held job.b bxs bys k g.lb g.j0 g.j1 g.j2 g.w0 g.w1 g.w2 rb eb turn_b point_b place_b
  pub centre : Vector
  pub mid : MidVector k job.d1 job.d2 centre
  pub way : Vector
  pub way-x : int_of way.x ≃ int_of place_b.x ⊞ int_of centre.x ⊟ int_of place_a.x
  pub way-y : int_of way.y ≃ int_of place_b.y ⊞ int_of centre.y ⊟ int_of place_a.y
  pub room : ℕ
  pub reached : Reached way room
  pub enough : room + ea + eb + 30 + 2 * (ra + rb) ≤ job.down

-- ---- what it says
-- k / 2^24 of the way
abbrev pub moment_at : ℕ → Moment
moment_at k = record { u = 16777216 - k; w = k; some = omega arith }

-- whatever the job stands for touches there
abbrev pub TouchesAt : (job : GridJob) (k : ℕ) (axs ays bxs bys : List ℕ) → Type 0
TouchesAt job k axs ays bxs bys = (unit finer : ℕ) (a b : Mover) (keep : ℕ) → StandsFor unit finer job axs ays bxs bys a b keep → TouchAt (moment_at k)
    1073741824 keep a b
