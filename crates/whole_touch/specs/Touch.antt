-- Two bodies on their way that touch at a moment of it, up to a distance: the opposite of `AwayAt`. And a check at that moment.
-- Everything is a whole number: a distance is compared by its square, a fraction by cross-multiplying.
use Rattle.std.specs.Prelude.{ℕ, ◌<◌}
use Rattle.integers.specs.Signed.{Int, of_nat, ◌⊞◌, ◌⊟◌, ◌⊠◌, ◌≼◌, ◌≺◌}
use Rattle.integers.specs.Whole.{Within}
use Rattle.plane.specs.Plane.{Point, sum, difference, scaled, dot}
use Rattle.plane.specs.Outline.{Outline, PointOf, divisor, dividend, gap}
use Rattle.whole_move.specs.Blend.{twice}
use Rattle.whole_move.specs.Piece.{turned_by, Moment, whole}
use Rattle.whole_way.specs.Mover.{Mover, on, heading_at, TurnAt, corner_at}

-- ---- the statement
-- the point p of a and the point q of b are at most r apart
abbrev pub AtMostApart : Int → (a b : Outline) → PointOf a → PointOf b → Type 0
AtMostApart r a b p q = let t = divisor a p ⊠ divisor b q ⊠ r in dot (gap a b p q) (gap a b p q) ≼ t ⊠ t

-- a body's corners in its own frame
abbrev pub frame : Mover → Outline
frame o = record { count = o.count; corner = o.corner }

module _ (m : Moment) where
  -- its corners where they are, times under (u + w) and times k
  abbrev pub outline_at : (k over under : Int) → Mover → Outline
  outline_at k over under o = record { count = o.count; corner = λ i. scaled k (corner_at m over under o i) }

  -- the same weights there
  abbrev pub carried : (k over under : Int) (o : Mover) → PointOf (frame o) → PointOf (outline_at k over under o)
  carried k over under o p = record { weight = p.weight; some = p.some }

  -- There are a point of a and a point of b, the same for every turn of either, that are at most `distance` apart.
  pub record TouchAt (S distance : ℕ) (a b : Mover) : Type 0 where
    pub point_a : PointOf (frame a)
    pub point_b : PointOf (frame b)
    pub touching : (s : TurnAt m S a) (t : TurnAt m S b)
        → let s_u = of_nat s.under in
        let t_u = of_nat t.under in
        let s_o = of_nat s.over in
        let t_o = of_nat t.over in
        AtMostApart (s_u ⊠ t_u ⊠ whole m ⊠ of_nat distance) (outline_at t_u s_o s_u a) (outline_at s_u t_o t_u b) (carried t_u s_o s_u a point_a) (carried s_u t_o t_u b point_b)

  -- ---- the check
  -- a turn along the heading, whose length is near F
  abbrev pub lengthened : ℕ → Mover → Point
  lengthened s o = scaled (of_nat s) (heading_at m o)

  -- the point p of the body as that turn places it: in F-ths, times its divisor and u + w
  abbrev pub place_by : (F s : ℕ) (o : Mover) → PointOf (frame o) → Point
  place_by F s o p = sum (scaled (of_nat F ⊠ divisor (frame o) p) (on m o.centre1 o.centre2)) (scaled (whole m) (turned_by (lengthened s o) (dividend
      (frame o) p)))

  -- The squared length of the turn is within y of F², the point lies within R of the centre, and no turn in the window moves it by more than E, in F-ths.
  -- `tame` and `window` are those of a piece's check.
  pub record Steady (F slack s : ℕ) (o : Mover) (p : PointOf (frame o)) (E : ℕ) : Type 0 where
    pub y : ℕ
    pub R : ℕ
    pub some : 0 < s
    pub room : of_nat y ≺ of_nat F ⊠ of_nat F
    pub tame : of_nat 49 ⊠ (of_nat F ⊠ of_nat F ⊞ of_nat y) ≼ of_nat 64 ⊠ (of_nat F ⊠ of_nat F ⊟ of_nat slack)
    pub long : of_nat F ⊠ of_nat F ⊟ of_nat y ≼ dot (lengthened s o) (lengthened s o)
    pub short : dot (lengthened s o) (lengthened s o) ≼ of_nat F ⊠ of_nat F ⊞ of_nat y
    pub inside : dot (dividend (frame o) p) (dividend (frame o) p) ≼ divisor (frame o) p ⊠ of_nat R ⊠ (divisor (frame o) p ⊠ of_nat R)
    pub window : of_nat 64 ⊠ (of_nat R ⊠ of_nat R ⊠ ((of_nat y ⊞ of_nat slack) ⊠ (of_nat y ⊞ of_nat slack))) ≼ of_nat 225 ⊠ ((of_nat F ⊠ of_nat F ⊟ of_nat y) ⊠ (of_nat
        E ⊠ of_nat E))

  -- The check: turns sa and sb times the headings, in F-ths; weights; and the difference of the two points that they place, as it is shown to the check:
  -- divided by `scale`, and rounded so that each part, times `scale`, is off by at most e. It is at most `reach` long, D covers the rounding of both parts,
  -- and the distance has room for the reach, the rounding and what the window moves either point by.
  pub record Touches (S distance : ℕ) (a b : Mover) : Type 0 where
    pub F : ℕ
    pub slack : ℕ
    pub some : 0 < S
    pub wide : of_nat F ⊠ of_nat F ≼ of_nat slack ⊠ of_nat S
    pub point_a : PointOf (frame a)
    pub point_b : PointOf (frame b)
    pub sa : ℕ
    pub sb : ℕ
    pub EA : ℕ
    pub EB : ℕ
    pub body_a : Steady F slack sa a point_a EA
    pub body_b : Steady F slack sb b point_b EB
    pub shown : Point
    pub scale : ℕ
    pub e : ℕ
    pub D : ℕ
    pub reach : ℕ
    pub near-x : let x = difference (scaled (divisor (frame b) point_b) (place_by F sa a point_a)) (scaled (divisor (frame a) point_a) (place_by F sb b point_b))
        in Within e (x.x ⊟ of_nat scale ⊠ shown.x)
    pub near-y : let x = difference (scaled (divisor (frame b) point_b) (place_by F sa a point_a)) (scaled (divisor (frame a) point_a) (place_by F sb b point_b))
        in Within e (x.y ⊟ of_nat scale ⊠ shown.y)
    pub rounding : twice (of_nat e ⊠ of_nat e) ≼ of_nat D ⊠ of_nat D
    pub reached : dot shown shown ≼ of_nat reach ⊠ of_nat reach
    pub enough : let k = divisor (frame a) point_a ⊠ divisor (frame b) point_b ⊠ whole m in of_nat scale ⊠ of_nat reach ⊞ of_nat D ⊞ k ⊠ (of_nat EA ⊞ of_nat EB) ≼
        k ⊠ (of_nat F ⊠ of_nat distance)
