-- A body on its planned way, and two of them that are away from each other at a moment of it. A piece of the way, and the body that the check sees there.
use Rattle.std.specs.Prelude.{◌≡◌, ℕ, ◌+◌, ◌-◌, ◌≤◌, ◌<◌}
use Rattle.std.proofs.Common.{arith}
use Rattle.integers.specs.Signed.{Int, of_nat, ◌⊞◌, ◌⊟◌, ◌⊠◌, ◌≼◌, ◌≃◌}
use Rattle.plane.specs.Plane.{Point, sum, scaled, dot}
use Rattle.plane.specs.Outline.{Outline}
use Rattle.plane.specs.Fraction.{Fraction, ◌≤ᶠ◌}
use Rattle.whole_move.specs.Blend.{twice, line, line_point}
use Rattle.whole_move.specs.Piece.{Controls, Body, turned_by, Moment, whole, FartherThan, Checked}

-- Corners in the body's own frame; its centre and where it is headed, first and last. On the way the centre goes straight on, and the heading is
-- what lies straight between the two, of any length.
pub record Mover : Type 0 where
  pub count : ℕ
  pub corner : ℕ → Point
  pub centre1 : Point
  pub centre2 : Point
  pub heading1 : Point
  pub heading2 : Point

module _ (m : Moment) where
  abbrev pub on : Point → Point → Point
  on p q = line_point (of_nat m.u) (of_nat m.w) p q

  abbrev pub heading_at : Mover → Point
  heading_at o = on o.heading1 o.heading2

  -- A turn: over / under times the heading, so that its squared length is within 1 / S of 1.
  pub record TurnAt (S : ℕ) (o : Mover) : Type 0 where
    pub over : ℕ
    pub under : ℕ
    pub some : 0 < under
    pub long-enough : of_nat under ⊠ of_nat under ⊠ (of_nat S ⊟ of_nat 1) ≼ of_nat S ⊠ (of_nat over ⊠ of_nat over ⊠ dot (heading_at o) (heading_at o))
    pub short-enough : of_nat S ⊠ (of_nat over ⊠ of_nat over ⊠ dot (heading_at o) (heading_at o)) ≼ of_nat under ⊠ of_nat under ⊠ (of_nat S ⊞ of_nat 1)

  -- where corner i is, times under (u + w)
  abbrev pub corner_at : (over under : Int) → Mover → ℕ → Point
  corner_at over under o i = sum (scaled under (on o.centre1 o.centre2)) (scaled (over ⊠ whole m) (turned_by (heading_at o) (o.corner i)))

  -- for every turn of either, every point of a and every point of b are more than `clearance` apart
  abbrev pub AwayAt : (S clearance : ℕ) → Mover → Mover → Type 0
  AwayAt S clearance a b = (s : TurnAt S a) (t : TurnAt S b)
      → let s_u = of_nat s.under in
      let t_u = of_nat t.under in
      FartherThan (s_u ⊠ t_u ⊠ whole m ⊠ of_nat clearance) (record { count = a.count; corner = λ i. scaled t_u (corner_at (of_nat s.over) s_u a i) })
      (record { count = b.count; corner = λ j. scaled s_u (corner_at (of_nat t.over) t_u b j) })

-- ---- a piece: from a1 / n of the way to b1 / n of it
pub record Piece : Type 0 where
  pub n : ℕ
  pub a0 : ℕ
  pub a1 : ℕ
  pub b0 : ℕ
  pub b1 : ℕ
  pub some : 0 < n
  pub first : a0 + a1 ≡ n
  pub last : b0 + b1 ≡ n

-- the moment g of the way is the moment m of the piece
pub record InPiece (p : Piece) (g m : Moment) : Type 0 where
  pub times : ℕ
  pub some : 0 < times
  pub same-u : of_nat times ⊠ of_nat g.u ≃ line (of_nat m.u) (of_nat m.w) (of_nat p.a0) (of_nat p.b0)
  pub same_w : of_nat times ⊠ of_nat g.w ≃ line (of_nat m.u) (of_nat m.w) (of_nat p.a1) (of_nat p.b1)

-- The body that is checked over the piece, in 2 n f-ths. Its turn is the heading times a line from s0 to s1, which a search picks so that the length
-- stays near 2 n f.
module _ (p : Piece) (f s0 s1 : ℕ) (o : Mover) where
  abbrev pub at_first : Point → Point → Point
  at_first x y = line_point (of_nat p.a0) (of_nat p.a1) x y

  abbrev pub at_last : Point → Point → Point
  at_last x y = line_point (of_nat p.b0) (of_nat p.b1) x y

  abbrev pub between : (k l : Int) → Point → Point → Controls
  between k l x y = record { p0 = scaled (twice k) x; p1 = sum (scaled k y) (scaled l x); p2 = scaled (twice l) y }

  abbrev pub on_piece : Body
  on_piece = record {
    count = o.count;
    corner = o.corner;
    centre = between (of_nat f) (of_nat f) (at_first o.centre1 o.centre2) (at_last o.centre1 o.centre2);
    turn = between (of_nat s0) (of_nat s1) (at_first o.heading1 o.heading2) (at_last o.heading1 o.heading2);
  }

-- ---- the way, piece by piece
-- from k0 / n to k1 / n of it
abbrev pub piece_from : (n k0 k1 : ℕ) → 0 < n → k0 ≤ n → k1 ≤ n → Piece
piece_from n k0 k1 some h l = record { n = n; a0 = n - k0; a1 = k0; b0 = n - k1; b1 = k1; some = some; first = omega arith; last = omega arith }

-- k / n of the way, and where a moment stands
abbrev pub share : (n k : ℕ) → Fraction
share n k = record { top = of_nat k; bottom = of_nat n }

abbrev pub at : Moment → Fraction
at m = record { top = of_nat m.w; bottom = whole m }

-- away at each moment from one fraction of the way to another, ends included
abbrev pub AwayBetween : (S clearance : ℕ) → Mover → Mover → (from to : Fraction) → Type 0
AwayBetween S clearance a b from to = (g : Moment) → from ≤ᶠ at g → at g ≤ᶠ to → AwayAt g S clearance a b

-- The piece passes the check, in F-ths with F = 2 n f, for turns whose squared length is within 1 / S of 1.
pub record Settled (S clearance : ℕ) (a b : Mover) (p : Piece) : Type 0 where
  pub f : ℕ
  pub F : ℕ
  pub slack : ℕ
  pub room : ℕ
  pub sa : ℕ
  pub ta : ℕ
  pub sb : ℕ
  pub tb : ℕ
  pub some : (0 < f) × (0 < sa) × (0 < ta) × (0 < sb) × (0 < tb)
  pub F-is : of_nat F ≃ twice (of_nat p.n ⊠ of_nat f)
  pub wide : of_nat F ⊠ of_nat F ≼ of_nat slack ⊠ of_nat S
  pub enough : of_nat F ⊠ of_nat clearance ≼ of_nat room
  pub checked : Checked F slack room (on_piece p f sa ta a) (on_piece p f sb tb b)

-- ---- the same at another size: places c times as large
abbrev pub resized : ℕ → Mover → Mover
resized c o = record {
  count = o.count;
  corner = λ i. scaled (of_nat c) (o.corner i);
  centre1 = scaled (of_nat c) o.centre1;
  centre2 = scaled (of_nat c) o.centre2;
  heading1 = o.heading1;
  heading2 = o.heading2;
}
