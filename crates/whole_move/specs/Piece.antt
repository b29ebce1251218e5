-- A piece of a move of two bodies: what is checked at its control points, and what it then says of every moment inside it and of every turn in the window.
-- Everything is a whole number. Places of corners are in F-ths, where F is the length that a turn's control points have about.
use Rattle.std.specs.Prelude.{◌⊎◌, ℕ, ◌+◌, ◌≤◌, ◌<◌}
use Rattle.integers.specs.Signed.{Int, 0Int, of_nat, ◌⊞◌, ◌⊟◌, ◌⊠◌, ◌≼◌, ◌≺◌}
use Rattle.integers.specs.Whole.{Within}
use Rattle.plane.specs.Plane.{Point, sum, difference, scaled, dot, turned}
use Rattle.plane.specs.Outline.{Outline, PointOf, divisor, gap}
use Rattle.whole_move.specs.Blend.{twice, thrice, bend_point}

-- ---- bodies
pub record Controls : Type 0 where
  pub p0 : Point
  pub p1 : Point
  pub p2 : Point

-- Corners in the body's own frame; how its centre goes over the piece, in F-ths; how it turns: each point of the bend of `turn` shows where it is headed.
-- Where the centre goes straight on from c to d, its control points are F c, F (c + d) / 2 and F d.
pub record Body : Type 0 where
  pub count : ℕ
  pub corner : ℕ → Point
  pub centre : Controls
  pub turn : Controls

abbrev pub turned_by : Point → Point → Point
turned_by p v = turned p.x p.y v

-- the control points of corner i, in F-ths
abbrev pub control : Body → ℕ → Controls
control o i = record {
  p0 = sum o.centre.p0 (turned_by o.turn.p0 (o.corner i));
  p1 = sum o.centre.p1 (turned_by o.turn.p1 (o.corner i));
  p2 = sum o.centre.p2 (turned_by o.turn.p2 (o.corner i));
}

-- ---- a moment inside the piece, at w / (u + w) of it
pub record Moment : Type 0 where
  pub u : ℕ
  pub w : ℕ
  pub some : 0 < u + w

module _ (m : Moment) where
  abbrev pub whole : Int
  whole = of_nat m.u ⊞ of_nat m.w

  abbrev pub bend_at : Controls → Point
  bend_at c = bend_point (of_nat m.u) (of_nat m.w) c.p0 c.p1 c.p2

  -- A turn in the window: along the bend P of `turn`, by over / under times P / F, so that its squared length is within slack / F² of 1.
  pub record Turned (F slack : ℕ) (turn : Controls) : Type 0 where
    pub over : ℕ
    pub under : ℕ
    pub some : 0 < under
    pub long-enough : of_nat under ⊠ of_nat under ⊠ (whole ⊠ whole ⊠ (whole ⊠ whole)) ⊠ (of_nat F ⊠ of_nat F ⊟ of_nat slack) ≼ of_nat over ⊠ of_nat over ⊠ dot (bend_at turn) (bend_at turn)
    pub short-enough : of_nat over ⊠ of_nat over ⊠ dot (bend_at turn) (bend_at turn) ≼ of_nat under ⊠ of_nat under ⊠ (whole ⊠ whole ⊠ (whole ⊠ whole)) ⊠ (of_nat F ⊠ of_nat F ⊞ of_nat slack)

  -- corner i where it really is: in F-ths, times under (u + w)²
  abbrev pub placed_corner : (over under : Int) → Body → ℕ → Point
  placed_corner over under o i = sum (scaled under (bend_at o.centre)) (scaled over (turned_by (bend_at o.turn) (o.corner i)))

  -- X, divided by s, is within E of the bend of c
  abbrev pub Follows : Int → Int → Point → Controls → Type 0
  Follows s E X c =
      let r = s ⊠ (whole ⊠ whole) ⊠ E in
      let d = difference X (scaled s (bend_at c)) in
      dot d d ≼ r ⊠ r

-- ---- each point of a and each point of b are more than r apart
abbrev pub FartherThan : Int → Outline → Outline → Type 0
FartherThan r a b = (p : PointOf a) (q : PointOf b) → let t = divisor a p ⊠ divisor b q ⊠ r in t ⊠ t ≺ dot (gap a b p q) (gap a b p q)

-- ---- what is checked
-- the squared length of a bend is at least m, at most m
pub record LongAtLeast (m : Int) (c : Controls) : Type 0 where
  pub c0 : m ≼ dot c.p0 c.p0
  pub c1 : m ≼ dot c.p0 c.p1
  pub c2 : thrice m ≼ twice (dot c.p1 c.p1) ⊞ dot c.p0 c.p2
  pub c3 : m ≼ dot c.p1 c.p2
  pub c4 : m ≼ dot c.p2 c.p2

pub record LongAtMost (m : Int) (c : Controls) : Type 0 where
  pub c0 : dot c.p0 c.p0 ≼ m
  pub c1 : dot c.p0 c.p1 ≼ m
  pub c2 : twice (dot c.p1 c.p1) ⊞ dot c.p0 c.p2 ≼ thrice m
  pub c3 : dot c.p1 c.p2 ≼ m
  pub c4 : dot c.p2 c.p2 ≼ m

-- The dot product of an axis that goes from n0 to n1 and a bend is a cubic in u and w, with these four coefficients.
module _ (n0 n1 : Point) (c : Controls) where
  abbrev pub form0 : Int
  form0 = dot n0 c.p0

  abbrev pub form1 : Int
  form1 = dot n1 c.p0 ⊞ twice (dot n0 c.p1)

  abbrev pub form2 : Int
  form2 = twice (dot n1 c.p1) ⊞ dot n0 c.p2

  abbrev pub form3 : Int
  form3 = dot n1 c.p2

-- along the axis the bend of b stays beyond the bend of a by k
pub record Away (n0 n1 : Point) (k : Int) (a b : Controls) : Type 0 where
  pub b0 : form0 n0 n1 a ⊞ k ≺ form0 n0 n1 b
  pub b1 : form1 n0 n1 a ⊞ thrice k ≺ form1 n0 n1 b
  pub b2 : form2 n0 n1 a ⊞ thrice k ≺ form2 n0 n1 b
  pub b3 : form3 n0 n1 a ⊞ k ≺ form3 n0 n1 b

-- each part of d is within e of the same part of c
pub record Near (e : ℕ) (c d : Controls) : Type 0 where
  pub x0 : Within e (c.p0.x ⊟ d.p0.x)
  pub y0 : Within e (c.p0.y ⊟ d.p0.y)
  pub x1 : Within e (c.p1.x ⊟ d.p1.x)
  pub y1 : Within e (c.p1.y ⊟ d.p1.y)
  pub x2 : Within e (c.p2.x ⊟ d.p2.x)
  pub y2 : Within e (c.p2.y ⊟ d.p2.y)

-- What the check is shown of a body: control points of its corners, rounded by at most e in each part, and a margin, in F-ths, which covers what the
-- rounding moves a corner by (D) and what the window moves it by (E). The squared length of the turn is within y of F² at each moment, and the corners lie
-- within R. `tame` asks that y and the slack are below some quarter of F², so that a turn in the window is stretched by at least 7 / 8: then the window
-- moves a corner by at most 8 / 15 of R (y + slack) / F, and a little for the y under the root.
pub record Shown (F slack : ℕ) (o : Body) (margin : ℕ) (shown : ℕ → Controls) : Type 0 where
  pub y : ℕ
  pub R : ℕ
  pub e : ℕ
  pub D : ℕ
  pub E : ℕ
  pub room : of_nat y ≺ of_nat F ⊠ of_nat F
  pub tame : of_nat 49 ⊠ (of_nat F ⊠ of_nat F ⊞ of_nat y) ≼ of_nat 64 ⊠ (of_nat F ⊠ of_nat F ⊟ of_nat slack)
  pub long : LongAtLeast (of_nat F ⊠ of_nat F ⊟ of_nat y) o.turn
  pub short : LongAtMost (of_nat F ⊠ of_nat F ⊞ of_nat y) o.turn
  pub inside : (i : ℕ) → i < o.count → dot (o.corner i) (o.corner i) ≼ of_nat R ⊠ of_nat R
  pub window : of_nat 64 ⊠ (of_nat R ⊠ of_nat R ⊠ ((of_nat y ⊞ of_nat slack) ⊠ (of_nat y ⊞ of_nat slack))) ≼ of_nat 225 ⊠ ((of_nat F ⊠ of_nat F ⊟ of_nat y) ⊠ (of_nat E ⊠ of_nat E))
  pub near : (i : ℕ) → i < o.count → Near e (control o i) (shown i)
  pub rounding : twice (of_nat e ⊠ of_nat e) ≼ of_nat D ⊠ of_nat D
  pub enough : E + D ≤ margin

-- A body that counts as a disc about its centre: its turn is not looked at. The check is shown its centre alone, and no turn in the window carries a corner
-- farther than E from it.
pub record Disc (F slack : ℕ) (o : Body) (margin : ℕ) (shown : ℕ → Controls) : Type 0 where
  pub R : ℕ
  pub e : ℕ
  pub D : ℕ
  pub E : ℕ
  pub inside : (i : ℕ) → i < o.count → dot (o.corner i) (o.corner i) ≼ of_nat R ⊠ of_nat R
  pub reach : (of_nat F ⊠ of_nat F ⊞ of_nat slack) ⊠ (of_nat R ⊠ of_nat R) ≼ of_nat E ⊠ of_nat E
  pub near : (i : ℕ) → i < o.count → Near e o.centre (shown i)
  pub rounding : twice (of_nat e ⊠ of_nat e) ≼ of_nat D ⊠ of_nat D
  pub enough : E + D ≤ margin

abbrev pub ShownAs : (F slack : ℕ) (o : Body) (margin : ℕ) (shown : ℕ → Controls) → Type 0
ShownAs F slack o margin shown = Shown F slack o margin shown ⊎ Disc F slack o margin shown

-- The check of a piece: an axis of length at most N at both ends, along which each corner of b stays beyond each corner of a by N times the sum of the
-- clearance and the margins. The clearance is in F-ths.
pub record Checked (F slack clearance : ℕ) (a b : Body) : Type 0 where
  pub n0 : Point
  pub n1 : Point
  pub N : ℕ
  pub margin_a : ℕ
  pub margin_b : ℕ
  pub shown_a : ℕ → Controls
  pub shown_b : ℕ → Controls
  pub length0 : dot n0 n0 ≼ of_nat N ⊠ of_nat N
  pub length1 : dot n1 n1 ≼ of_nat N ⊠ of_nat N
  pub body_a : ShownAs F slack a margin_a shown_a
  pub body_b : ShownAs F slack b margin_b shown_b
  pub away : (i j : ℕ) → i < a.count → j < b.count → Away n0 n1 (of_nat N ⊠ (of_nat clearance ⊞ of_nat margin_a ⊞ of_nat margin_b)) (shown_a i) (shown_b j)

-- ---- what follows: at each moment and for each turn in the window the outlines, brought to one scale, are more than the clearance apart
module _ (F slack clearance : ℕ) (a b : Body) where
  module _ (m : Moment) (s : Turned m F slack a.turn) (t : Turned m F slack b.turn) where
    -- in F-ths, times this
    abbrev pub scale : Int
    scale = of_nat s.under ⊠ of_nat t.under ⊠ (whole m ⊠ whole m)

    abbrev pub placed_a : Outline
    placed_a = record { count = a.count; corner = λ i. scaled (of_nat t.under) (placed_corner m (of_nat s.over) (of_nat s.under) a i) }

    abbrev pub placed_b : Outline
    placed_b = record { count = b.count; corner = λ j. scaled (of_nat s.under) (placed_corner m (of_nat t.over) (of_nat t.under) b j) }

  abbrev pub ClearThroughout : Type 0
  ClearThroughout = (m : Moment) (s : Turned m F slack a.turn) (t : Turned m F slack b.turn) → FartherThan (scale m s t ⊠ of_nat clearance) (placed_a m s t) (placed_b m s t)
