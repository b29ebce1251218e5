-- Both bodies held: the check of a touch on rounded numbers holds, and so they touch. Assumes nothing.
use mathlib.Core.Path.{◌≡◌}
use mathlib.Core.List.{List, [], ◌∷◌}
use Prim.Native.Nat.{ℕ, ◌+◌, ◌-◌, ◌*◌, ◌≤◌, ◌<◌}
use native.Mathlib.Nat.{mul-le-mul_left}
use native.Mathlib.Omega.{arith}
use lib.ListN.{length}
use Rattle.integers.specs.Signed.{Int, 0Int, of_nat, ◌⊞◌, ◌⊟◌, ◌⊠◌, ◌≼◌, ◌≃◌}
use Rattle.integers.specs.Whole.{Within}
use Rattle.integers.specs.Polynomial.{var, lit, ◌:+◌, ◌:-◌, ◌:*◌}
use Rattle.integers.proofs.Signed.{⊠-cong, ⊠-cong-r, ⊠-square}
use Rattle.integers.proofs.Ring.{ring}
use Rattle.plane.specs.Plane.{Point, difference, scaled, dot, total}
use Rattle.whole_move.specs.Blend.{twice}
use Rattle.whole_move.specs.Piece.{turned_by, whole}
use Rattle.whole_move.proofs.Turns.{square-within}
use Rattle.whole_way.specs.Mover.{Mover, on}
use Rattle.whole_touch.specs.Touch.{TouchAt, frame}
use Rattle.whole_touch.specs.Seen.{Near, SeenTouch, place_from, off_by}
use Rattle.whole_touch.proofs.Rounded.{seen-touches}
use Rattle.board.specs.declared.Pair.{Pair}
use Rattle.board.specs.declared.Vector.{Vector}
use Rattle.board.specs.Pairs.{int_of, point_of, size_of, Sized}
use Rattle.board.specs.declared.GridJob.{GridJob}
use Rattle.board.specs.Board.{Fits, StandsFor}
use Rattle.board.specs.declared.Grip.{Grip}
use Rattle.holding.specs.Grip.{moment_at, Gripped, TouchesAt}
use Rattle.holding.proofs.Parts.{nat-product, cut-within, centre-part, last-part}
use Rattle.holding.proofs.Resized.{resized_a, resized_b, resized-touch}
use Rattle.holding.proofs.Held.{whole_at, scale_of, some-scale, mid-within, HeldBody, held-body}
use Rattle.holding.proofs.Window as Window

-- ---- numbers only
-- 3 e at most 2 D: then twice the square of e is at most that of D
rounded : (e D : ℕ) → 3 * e ≤ 2 * D → twice (of_nat e ⊠ of_nat e) ≼ of_nat D ⊠ of_nat D
unfolding ◌⊠◌
rounded e D h = omega (arith, mul-le-mul_left (3 * e) h, mul-le-mul_left (2 * D) h)

in-numbers : (W U unit room ea eb ra rb down far : ℕ) → room + ea + eb + 30 + 2 * (ra + rb) ≤ down → down * unit ≤ far
    → W * (U * unit) * 1073741824 * room + W * (U * unit) * (1073741824 * (30 + 2 * (ra + rb))) + W * (U * unit * (1073741824 * ea) + U * unit *
    (1073741824 * eb)) ≤ W * (U * 1073741824 * far)
in-numbers W U unit room ea eb ra rb down far h l = omega (arith, mul-le-mul_left (W * (U * unit) * 1073741824) h, mul-le-mul_left (W * U * 1073741824) l)

module _ (wa wb H U unit : ℕ) where
  abbrev all_scales : ℕ
  all_scales = wa * wb * H * (U * unit)

  rounding-fits : (ra rb : ℕ)
      → 3 * (wb * (U * 1073741824 * wa * 0 + H * (2 * (U * ra * (unit * wa * 536870912 + 3 * (unit * wa)) + 3 * (unit * wa) * (U * (1207959552 + ra)))))
      + wa * (U * 1073741824 * wb * (3 * (unit * H)) + H * (2 * (U * rb * (unit * wb * 536870912 + 3 * (unit * wb)) + 3 * (unit * wb) * (U * (1207959552 +
      rb))))) + all_scales * 2147483648)
      ≤ 2 * (all_scales * (1073741824 * (30 + 2 * (ra + rb))))
  rounding-fits ra rb = omega arith

  three-is : of_nat wa ⊠ of_nat wb ⊠ of_nat H ≃ of_nat (wa * wb * H)
  unfolding ◌⊠◌
  three-is = omega arith

  enough-fits : (room ea eb ra rb down far : ℕ) → room + ea + eb + 30 + 2 * (ra + rb) ≤ down → down * unit ≤ far
      → of_nat (all_scales * 1073741824) ⊠ of_nat room ⊞ of_nat (all_scales * (1073741824 * (30 + 2 * (ra + rb)))) ⊞ of_nat wa ⊠ of_nat wb ⊠ of_nat H ⊠ (of_nat (U *
      unit * (1073741824 * ea)) ⊞ of_nat (U * unit * (1073741824 * eb)))
      ≼ of_nat wa ⊠ of_nat wb ⊠ of_nat H ⊠ (of_nat (U * 1073741824) ⊠ of_nat far)
  enough-fits room ea eb ra rb down far h l =
      let W = wa * wb * H in
      let margins = U * unit * (1073741824 * ea) + U * unit * (1073741824 * eb) in
      let F = U * 1073741824 in
      omega (
        arith,
        in-numbers W U unit room ea eb ra rb down far h l,
        nat-product (all_scales * 1073741824) room,
        ⊠-cong (of_nat wa ⊠ of_nat wb ⊠ of_nat H) (of_nat W) (of_nat margins) (of_nat margins) three-is (omega arith),
        nat-product W margins,
        ⊠-cong (of_nat wa ⊠ of_nat wb ⊠ of_nat H) (of_nat W) (of_nat F ⊠ of_nat far) (of_nat (F * far)) three-is (omega (arith, nat-product F far)),
        nat-product W (F * far),
      )

  scale-a : of_nat wb ⊠ of_nat H ⊠ of_nat U ⊠ of_nat (unit * wa) ≃ of_nat all_scales
  unfolding ◌⊠◌
  scale-a = omega arith

  scale-b : of_nat wa ⊠ of_nat H ⊠ of_nat U ⊠ of_nat (unit * wb) ≃ of_nat all_scales
  unfolding ◌⊠◌
  scale-b = omega arith

  scale-d : of_nat wa ⊠ of_nat (U * 1073741824) ⊠ of_nat wb ⊠ of_nat (unit * H) ≃ of_nat all_scales ⊠ of_nat 1073741824
  unfolding ◌⊠◌
  scale-d = omega arith

  -- from scaled parts to the scale of all
  scaled-parts : (X pa pb d : Int) → X ≃ of_nat wb ⊠ of_nat H ⊠ of_nat U ⊠ of_nat (unit * wa) ⊠ pa ⊟ of_nat wa ⊠ of_nat (U * 1073741824) ⊠ of_nat wb ⊠ of_nat (unit
      * H) ⊠ d ⊟ of_nat wa ⊠ of_nat H ⊠ of_nat U ⊠ of_nat (unit * wb) ⊠ pb
      → X ≃ of_nat all_scales ⊠ (pa ⊟ of_nat 1073741824 ⊠ d ⊟ pb)
  scaled-parts X pa pb d h = omega (
    arith,
    h,
    ⊠-cong (of_nat wb ⊠ of_nat H ⊠ of_nat U ⊠ of_nat (unit * wa)) (of_nat all_scales) pa pa scale-a (omega arith),
    ⊠-cong (of_nat wa ⊠ of_nat (U * 1073741824) ⊠ of_nat wb ⊠ of_nat (unit * H)) (of_nat all_scales ⊠ of_nat 1073741824) d d scale-d (omega arith),
    ⊠-cong (of_nat wa ⊠ of_nat H ⊠ of_nat U ⊠ of_nat (unit * wb)) (of_nat all_scales) pb pb scale-b (omega arith),
    ring (var 0 :* (var 1 :- var 2 :* var 3 :- var 4)) (var 0 :* var 1 :- var 0 :* var 2 :* var 3 :- var 0 :* var 4) (of_nat all_scales ∷ pa ∷ of_nat
        1073741824 ∷ d ∷ pb ∷ []) tt,
  )

  module _ (P a Q b : Point) where
    parts-x : (d : Int)
        → let F = of_nat (U * 1073741824) in
        of_nat wb ⊠ (F ⊠ of_nat wa ⊠ 0Int ⊞ of_nat H ⊠ (of_nat U ⊠ P.x ⊠ (of_nat (unit * wa) ⊠ a.x) ⊟ of_nat U ⊠ P.y ⊠ (of_nat (unit * wa) ⊠ a.y)))
        ⊟ of_nat wa ⊠ (F ⊠ of_nat wb ⊠ (of_nat (unit * H) ⊠ d) ⊞ of_nat H ⊠ (of_nat U ⊠ Q.x ⊠ (of_nat (unit * wb) ⊠ b.x) ⊟ of_nat U ⊠ Q.y ⊠ (of_nat (unit *
        wb) ⊠ b.y)))
        ≃ of_nat all_scales ⊠ ((turned_by P a).x ⊟ of_nat 1073741824 ⊠ d ⊟ (turned_by Q b).x)
    parts-x d = scaled-parts _ (turned_by P a).x (turned_by Q b).x d (ring
        (var 0 :* (var 1 :* var 2 :* lit 0Int :+ var 3 :* (var 4 :* var 5 :* (var 6 :* var 7) :- var 4 :* var 8 :* (var 6 :* var 9))) :- var 2 :* (var 1 :*
        var 0 :* (var 10 :* var 11) :+ var 3 :* (var 4 :* var 12 :* (var 13 :* var 14) :- var 4 :* var 15 :* (var 13 :* var 16))))
        (var 0 :* var 3 :* var 4 :* var 6 :* (var 5 :* var 7 :- var 8 :* var 9) :- var 2 :* var 1 :* var 0 :* var 10 :* var 11 :- var 2 :* var 3 :* var 4
        :* var 13 :* (var 12 :* var 14 :- var 15 :* var 16))
        (of_nat wb ∷ of_nat (U * 1073741824) ∷ of_nat wa ∷ of_nat H ∷ of_nat U ∷ P.x ∷ of_nat (unit * wa) ∷ a.x ∷ P.y ∷ a.y ∷ of_nat (unit * H) ∷ d ∷ Q.x ∷
        of_nat (unit * wb) ∷ b.x ∷ Q.y ∷ b.y ∷ []) tt)

    parts-y : (d : Int)
        → let F = of_nat (U * 1073741824) in
        of_nat wb ⊠ (F ⊠ of_nat wa ⊠ 0Int ⊞ of_nat H ⊠ (of_nat U ⊠ P.y ⊠ (of_nat (unit * wa) ⊠ a.x) ⊞ of_nat U ⊠ P.x ⊠ (of_nat (unit * wa) ⊠ a.y)))
        ⊟ of_nat wa ⊠ (F ⊠ of_nat wb ⊠ (of_nat (unit * H) ⊠ d) ⊞ of_nat H ⊠ (of_nat U ⊠ Q.y ⊠ (of_nat (unit * wb) ⊠ b.x) ⊞ of_nat U ⊠ Q.x ⊠ (of_nat (unit *
        wb) ⊠ b.y)))
        ≃ of_nat all_scales ⊠ ((turned_by P a).y ⊟ of_nat 1073741824 ⊠ d ⊟ (turned_by Q b).y)
    parts-y d = scaled-parts _ (turned_by P a).y (turned_by Q b).y d (ring
        (var 0 :* (var 1 :* var 2 :* lit 0Int :+ var 3 :* (var 4 :* var 8 :* (var 6 :* var 7) :+ var 4 :* var 5 :* (var 6 :* var 9))) :- var 2 :* (var 1 :*
        var 0 :* (var 10 :* var 11) :+ var 3 :* (var 4 :* var 15 :* (var 13 :* var 14) :+ var 4 :* var 12 :* (var 13 :* var 16))))
        (var 0 :* var 3 :* var 4 :* var 6 :* (var 8 :* var 7 :+ var 5 :* var 9) :- var 2 :* var 1 :* var 0 :* var 10 :* var 11 :- var 2 :* var 3 :* var 4
        :* var 13 :* (var 15 :* var 14 :+ var 12 :* var 16))
        (of_nat wb ∷ of_nat (U * 1073741824) ∷ of_nat wa ∷ of_nat H ∷ of_nat U ∷ P.x ∷ of_nat (unit * wa) ∷ a.x ∷ P.y ∷ a.y ∷ of_nat (unit * H) ∷ d ∷ Q.x ∷
        of_nat (unit * wb) ∷ b.x ∷ Q.y ∷ b.y ∷ []) tt)

-- ---- the theorem
abbrev origin : Point
origin = record { x = 0Int; y = 0Int }

opposite-short : (x : Point) (r : Int) → dot x x ≼ r ⊠ r → dot (difference origin x) (difference origin x) ≼ r ⊠ r
opposite-short x r h = omega (
  arith,
  ring (var 0 :* var 0 :+ var 1 :* var 1) ((lit 0Int :- var 0) :* (lit 0Int :- var 0) :+ (lit 0Int :- var 1) :* (lit
      0Int :- var 1)) (x.x ∷ x.y ∷ []) tt,
)

nothing : (u w : Int) → Within 0 (u ⊠ 0Int ⊞ w ⊠ 0Int ⊟ 0Int)
nothing u w = let e = ring (var 0 :* lit 0Int :+ var 1 :* lit 0Int) (lit 0Int) (u ∷ w ∷ []) tt in record {
  upper = omega (arith, e);
  lower = omega (
    arith,
    e,
  );
}

module _ (job : GridJob) (k : ℕ) (g : Grip) (axs ays bxs bys : List ℕ) (fits : Fits job axs ays bxs bys) (h : Gripped job k g axs ays bxs bys)
    (unit finer : ℕ) (a b : Mover) (keep : ℕ) (stands : StandsFor unit finer job axs ays bxs bys a b keep) where
  abbrev U : ℕ
  U = scale_of k unit

  abbrev H : ℕ
  H = whole_at k

  abbrev A : Mover
  A = resized_a finer a b

  abbrev B : Mover
  B = resized_b finer a b

  held_a : HeldBody k unit A g.la h.ra h.ea h.turn_a h.point_a
  held_a = held-body k unit finer h.early stands.some_unit job.a axs ays a stands.body_a A.centre1 A.centre2 g.la g.i0 g.i1 g.i2
      g.w0 g.w1 g.w2 h.ra h.ea h.turn_a h.point_a h.place_a
      h.names.all h.names.a0 h.names.a1 h.names.a2 fits.body_a.inside h.held_a

  held_b : HeldBody k unit B g.lb h.rb h.eb h.turn_b h.point_b
  held_b = held-body k unit finer h.early stands.some_unit job.b bxs bys b stands.body_b B.centre1 B.centre2 g.lb g.j0 g.j1 g.j2
      g.w0 g.w1 g.w2 h.rb h.eb h.turn_b h.point_b h.place_b
      h.names.all h.names.b0 h.names.b1 h.names.b2 fits.body_b.inside h.held_b

  abbrev wa : ℕ
  wa = total a.count held_a.p.weight

  abbrev wb : ℕ
  wb = total b.count held_b.p.weight

  abbrev Z : ℕ
  Z = all_scales wa wb H U unit

  abbrev shown : Point
  shown = difference origin (point_of h.way)

  centre_b : Near (3 * (unit * H)) (on (moment_at k) B.centre1 B.centre2) (scaled (of_nat (unit * H)) (point_of h.centre))
  centre_b = record {
    x = centre-part (16777216 - k) k unit H B.centre1.x B.centre2.x (int_of job.d1.x) (int_of job.d2.x) (int_of h.centre.x) (omega arith)
        stands.centre1.x stands.centre2.x (mid-within k unit finer h.early stands.some_unit job.d1.x job.d2.x h.centre.x
        h.mid.x.cut);
    y = centre-part (16777216 - k) k unit H B.centre1.y B.centre2.y (int_of job.d1.y) (int_of job.d2.y) (int_of h.centre.y) (omega arith)
        stands.centre1.y stands.centre2.y (mid-within k unit finer h.early stands.some_unit job.d1.y job.d2.y h.centre.y
        h.mid.y.cut);
  }

  last : Near (Z * 2147483648)
      (difference (scaled (of_nat wb) (place_from (moment_at k) (U * 1073741824) (of_nat wa) origin (scaled (of_nat U) (point_of h.turn_a)) (scaled (of_nat
      (unit * wa)) (point_of h.point_a))))
      (scaled (of_nat wa) (place_from (moment_at k) (U * 1073741824) (of_nat wb) (scaled (of_nat (unit * H)) (point_of h.centre)) (scaled (of_nat U) (point_of
      h.turn_b)) (scaled (of_nat (unit * wb)) (point_of h.point_b))))) (scaled (of_nat (Z * 1073741824)) shown)
  last =
      let PA = point_of h.turn_a in
      let PB = point_of h.turn_b in
      let pa = point_of h.point_a in
      let pb = point_of h.point_b in
      let x_a = h.place_a in
      let x_b = h.place_b in
      let c = h.centre in
      let lx = last-part Z (turned_by PA pa).x (turned_by PB pb).x (int_of x_a.x) (int_of x_b.x) (int_of c.x) (int_of h.way.x) (cut-within
      1073741824 (turned_by PA pa).x x_a.x h.held_a.placed.x) (cut-within 1073741824 (turned_by PB pb).x x_b.x h.held_b.placed.x)
      h.way-x in
      let ly = last-part Z (turned_by PA pa).y (turned_by PB pb).y (int_of x_a.y) (int_of x_b.y) (int_of c.y) (int_of h.way.y) (cut-within
      1073741824 (turned_by PA pa).y x_a.y h.held_a.placed.y) (cut-within 1073741824 (turned_by PB pb).y x_b.y h.held_b.placed.y)
      h.way-y in
      let ex = parts-x wa wb H U unit PA pa PB pb (int_of c.x) in
      let ey = parts-y wa wb H U unit PA pa PB pb (int_of c.y) in
      record {
        x = record { upper = omega (arith, ex, lx.upper); lower = omega (arith, ex, lx.lower) };
        y = record {
          upper = omega (
            arith,
            ey,
            ly.upper,
          );
          lower = omega (arith, ey, ly.lower);
        };
      }

  both : SeenTouch (moment_at k) 1073741824 (finer * keep) A B
  both = record {
    F = U * 1073741824;
    slack = U * U * 1073741824;
    some = omega arith;
    wide = Window.wide U 0 0 (some-scale k unit finer h.early stands.some_unit) (omega arith);
    point_a = held_a.p;
    point_b = held_b.p;
    sa = 1073741824 * g.la;
    sb = 1073741824 * g.lb;
    EA = U * unit * (1073741824 * h.ea);
    EB = U * unit * (1073741824 * h.eb);
    ca = origin;
    ta = scaled (of_nat U) (point_of h.turn_a);
    va = scaled (of_nat (unit * wa)) (point_of h.point_a);
    cb = scaled (of_nat (unit * H)) (point_of h.centre);
    tb = scaled (of_nat U) (point_of h.turn_b);
    vb = scaled (of_nat (unit * wb)) (point_of h.point_b);
    body_a = held_a.seen;
    body_b = held_b.seen;
    e0 = 0;
    d = 3 * (unit * wa);
    M = unit * wa * 536870912 + 3 * (unit * wa);
    e0' = 3 * (unit * H);
    d' = 3 * (unit * wb);
    M' = unit * wb * 536870912 + 3 * (unit * wb);
    centre_a = record { x = nothing (of_nat (16777216 - k)) (of_nat k); y = nothing (of_nat (16777216 - k)) (of_nat k) };
    centre_b = centre_b;
    place_a = held_a.near;
    place_b = held_b.near;
    small_a = held_a.small;
    small_b = held_b.small;
    shown = shown;
    scale = Z * 1073741824;
    f = Z * 2147483648;
    D = Z * (1073741824 * (30 + 2 * (h.ra + h.rb)));
    reach = h.room;
    last = last;
    rounding = rounding;
    reached = opposite-short (point_of h.way) (of_nat h.room) h.reached;
    enough = enough-fits wa wb H U unit h.room h.ea h.eb h.ra h.rb job.down (finer * keep) h.enough stands.down;
  }
    where
      rounding : let e = wb * off_by (moment_at k) (U * 1073741824) wa 0 held_a.seen.e (3 * (unit * wa)) (unit * wa * 536870912 + 3 * (unit * wa))
          held_a.seen.K
          + wa * off_by (moment_at k) (U * 1073741824) wb (3 * (unit * H)) held_b.seen.e (3 * (unit * wb)) (unit * wb * 536870912 + 3 * (unit * wb))
          held_b.seen.K + Z * 2147483648 in
          twice (of_nat e ⊠ of_nat e) ≼ of_nat (Z * (1073741824 * (30 + 2 * (h.ra + h.rb)))) ⊠ of_nat (Z * (1073741824 * (30 + 2 * (h.ra + h.rb))))
      rounding = rw (held_a.e-is, held_a.K-is, held_b.e-is, held_b.K-is) (rounded _ _ (rounding-fits wa wb H U unit h.ra h.rb))

  touch : TouchAt (moment_at k) 1073741824 keep a b
  touch = resized-touch finer a b (moment_at k) 1073741824 keep stands.some_finer (seen-touches (moment_at k) 1073741824 (finer * keep) A B both)

pub gripped-touches : (job : GridJob) (k : ℕ) (g : Grip) (axs ays bxs bys : List ℕ) → Fits job axs ays bxs bys → Gripped job k g axs ays bxs bys →
    TouchesAt job k axs ays bxs bys
gripped-touches job k g axs ays bxs bys fits h unit finer a b keep stands = touch job k g axs ays bxs bys fits h unit finer a b keep stands
