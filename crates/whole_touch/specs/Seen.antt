-- The check of a touch on rounded numbers: centres, turns and weighted points as code has them, at the scale of the true ones.
use Rattle.std.specs.Prelude.{ℕ, ◌+◌, ◌*◌, ◌<◌}
use Rattle.integers.specs.Signed.{Int, of_nat, ◌⊞◌, ◌⊟◌, ◌⊠◌, ◌≼◌, ◌≺◌}
use Rattle.integers.specs.Whole.{Within}
use Rattle.plane.specs.Plane.{Point, sum, difference, scaled, dot, total}
use Rattle.plane.specs.Outline.{PointOf, divisor, dividend}
use Rattle.whole_move.specs.Blend.{twice}
use Rattle.whole_move.specs.Piece.{turned_by, Moment, whole}
use Rattle.whole_way.specs.Mover.{Mover, on}
use Rattle.whole_touch.specs.Touch.{frame, lengthened}

-- each part of b is within e of the same part of a
pub record Near (e : ℕ) (a b : Point) : Type 0 where
  pub x : Within e (a.x ⊟ b.x)
  pub y : Within e (a.y ⊟ b.y)

-- no part is above M in size
pub record Small (M : ℕ) (a : Point) : Type 0 where
  pub x : Within M a.x
  pub y : Within M a.y

-- ---- where the turn t places the point v of a body with the centre c, from numbers that code has; w is the divisor
abbrev pub place_from : Moment → (F : ℕ) → Int → (c t v : Point) → Point
place_from m F w c t v = sum (scaled (of_nat F ⊠ w) c) (scaled (whole m) (turned_by t v))

-- how far that is off, where centres are within e0, turns within e, points within d; points are at most M in size, turns K
abbrev pub off_by : Moment → (F w e0 e d M K : ℕ) → ℕ
off_by m F w e0 e d M K = F * w * e0 + (m.u + m.w) * (2 * (e * M + d * K))

module _ (m : Moment) where
  -- as `Steady`, of a turn t that is within e of the true one in each part. 4 e K covers what that does to its squared length.
  pub record Seen (F slack s : ℕ) (o : Mover) (p : PointOf (frame o)) (E : ℕ) (t : Point) : Type 0 where
    pub y : ℕ
    pub R : ℕ
    pub e : ℕ
    pub K : ℕ
    pub some : 0 < s
    pub room : of_nat y ≺ of_nat F ⊠ of_nat F
    pub tame : of_nat 49 ⊠ (of_nat F ⊠ of_nat F ⊞ of_nat y) ≼ of_nat 64 ⊠ (of_nat F ⊠ of_nat F ⊟ of_nat slack)
    pub turn : Near e (lengthened m s o) t
    pub small : Small K (lengthened m s o)
    pub small-seen : Small K t
    pub long : of_nat F ⊠ of_nat F ⊟ of_nat y ⊞ of_nat (4 * (e * K)) ≼ dot t t
    pub short : dot t t ⊞ of_nat (4 * (e * K)) ≼ of_nat F ⊠ of_nat F ⊞ of_nat y
    pub inside : dot (dividend (frame o) p) (dividend (frame o) p) ≼ divisor (frame o) p ⊠ of_nat R ⊠ (divisor (frame o) p ⊠ of_nat R)
    pub window : of_nat 64 ⊠ (of_nat R ⊠ of_nat R ⊠ ((of_nat y ⊞ of_nat slack) ⊠ (of_nat y ⊞ of_nat slack))) ≼ of_nat 225 ⊠ ((of_nat F ⊠ of_nat F ⊟ of_nat y) ⊠ (of_nat
        E ⊠ of_nat E))

  -- `shown` times `scale` is within f, in each part, of the difference that code's numbers have; D covers that and what they are off themselves.
  pub record SeenTouch (S distance : ℕ) (a b : Mover) : Type 0 where
    pub F : ℕ
    pub slack : ℕ
    pub some : 0 < S
    pub wide : of_nat F ⊠ of_nat F ≼ of_nat slack ⊠ of_nat S
    pub point_a : PointOf (frame a)
    pub point_b : PointOf (frame b)
    pub sa : ℕ
    pub sb : ℕ
    pub EA : ℕ
    pub EB : ℕ
    pub ca : Point
    pub ta : Point
    pub va : Point
    pub cb : Point
    pub tb : Point
    pub vb : Point
    pub body_a : Seen F slack sa a point_a EA ta
    pub body_b : Seen F slack sb b point_b EB tb
    pub e0 : ℕ
    pub d : ℕ
    pub M : ℕ
    pub e0' : ℕ
    pub d' : ℕ
    pub M' : ℕ
    pub centre_a : Near e0 (on m a.centre1 a.centre2) ca
    pub centre_b : Near e0' (on m b.centre1 b.centre2) cb
    pub place_a : Near d (dividend (frame a) point_a) va
    pub place_b : Near d' (dividend (frame b) point_b) vb
    pub small_a : Small M (dividend (frame a) point_a)
    pub small_b : Small M' (dividend (frame b) point_b)
    pub shown : Point
    pub scale : ℕ
    pub f : ℕ
    pub D : ℕ
    pub reach : ℕ
    pub last : let A = divisor (frame a) point_a in
        let B = divisor (frame b) point_b in
        Near f (difference (scaled B (place_from m F A ca ta va)) (scaled A (place_from m F B cb tb vb))) (scaled (of_nat scale) shown)
    pub rounding : let wa = total a.count point_a.weight in
        let wb = total b.count point_b.weight in
        let e = wb * off_by m F wa e0 body_a.e d M body_a.K + wa * off_by m F wb e0' body_b.e d' M' body_b.K + f in
        twice (of_nat e ⊠ of_nat e) ≼ of_nat D ⊠ of_nat D
    pub reached : dot shown shown ≼ of_nat reach ⊠ of_nat reach
    pub enough : let k = divisor (frame a) point_a ⊠ divisor (frame b) point_b ⊠ whole m in of_nat scale ⊠ of_nat reach ⊞ of_nat D ⊞ k ⊠ (of_nat EA ⊞ of_nat EB) ≼
        k ⊠ (of_nat F ⊠ of_nat distance)
