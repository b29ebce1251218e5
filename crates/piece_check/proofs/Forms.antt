-- From rounded axes to the forms themselves. Assumes nothing.
use mathlib.Core.List.{List, [], ◌∷◌}
use Prim.Native.Nat.{ℕ, ◌+◌, ◌*◌, ◌≤◌}
use native.Mathlib.Omega.{arith}
use Rattle.integers.specs.Signed.{Int, 0Int, of_nat, ◌⊞◌, ◌⊟◌, ◌⊠◌, ◌≃◌}
use Rattle.integers.specs.Whole.{Within}
use Rattle.integers.specs.Polynomial.{var, lit, ◌:+◌, ◌:-◌, ◌:*◌}
use Rattle.integers.proofs.Ring.{ring}
use Rattle.integers.proofs.Sized.{within-product}
use Rattle.plane.specs.Plane.{Point, sum, scaled, dot}
use Rattle.whole_move.specs.Blend.{twice}
use Rattle.whole_move.specs.Piece.{turned_by}
use Rattle.board.specs.declared.Pair.{Pair}
use Rattle.board.specs.declared.Vector.{Vector}
use Rattle.board.specs.Pairs.{int_of, point_of, Is, Sized}
use Rattle.board.specs.Corners.{corner_of, Corners, Beyond}
use Rattle.standing.specs.Form.{times30, Rounds, Leaned, seen, turn_form, FormApart, doubled, origin, AllAway, Bounds, FourBounds}
use Rattle.board.specs.declared.Arc.{Arc}

-- a corner sees the axis as the axis sees the turned corner
seen-form : (m n c0 c1 v : Point) → dot (seen m n c0 c1) v ≃ turn_form m n c0 c1 v
seen-form m n c0 c1 v =
    ring ((var 4 :* var 0 :+ var 5 :* var 1 :+ (var 6 :* var 2 :+ var 7 :* var 3)) :* var 8 :+ (var 4 :* var 1 :- var 5 :* var 0 :+ (var 6 :* var 3 :- var
    7 :* var 2)) :* var 9)
    (var 0 :* (var 4 :* var 8 :- var 5 :* var 9) :+ var 1 :* (var 5 :* var 8 :+ var 4 :* var 9) :+ (var 2 :* (var 6 :* var 8 :- var 7 :* var 9) :+ var 3 :*
    (var 7 :* var 8 :+ var 6 :* var 9)))
    (m.x ∷ m.y ∷ n.x ∷ n.y ∷ c0.x ∷ c0.y ∷ c1.x ∷ c1.y ∷ v.x ∷ v.y ∷ []) tt

part-within : (z : Int) (r : Pair) → Rounds z r → Within 1073741824 (z ⊟ times30 (int_of r))
part-within z r h = record { upper = omega (arith, h.upper); lower = omega (arith, h.lower) }

spread : (z r v : Int) → (z ⊟ times30 r) ⊠ v ≃ z ⊠ v ⊟ times30 (r ⊠ v)
unfolding ◌⊠◌
spread z r v = omega arith

-- what rounding an axis takes from its dot product with a corner
rounded-dot : (z : Point) (r : Vector) (v : Point) → Leaned z r → Within 536870912 v.x → Within 536870912 v.y
    → Within 1152921504606846976 (dot z v ⊟ times30 (dot (point_of r) v))
rounded-dot z r v h vx vy =
    let a = within-product 1073741824 536870912 (z.x ⊟ times30 (int_of r.x)) v.x (part-within z.x r.x h.x) vx in
    let b = within-product 1073741824 536870912 (z.y ⊟ times30 (int_of r.y)) v.y (part-within z.y r.y h.y) vy in
    let x = spread z.x (int_of r.x) v.x in
    let y = spread z.y (int_of r.y) v.y in
    record { upper = omega (arith, a.upper, b.upper, x, y); lower = omega (arith, a.lower, b.lower, x, y) }

place-within : (x : ℕ) → x ≤ 1073741824 → Within 536870912 (record { plus = x; minus = 536870912 })
place-within x h = record { upper = omega arith; lower = omega arith }

pub form-law : (m n a0 a1 b0 b1 d0 d1 : Vector) (k : ℕ) (wa wb : Vector) (c : Pair) (s : ℕ) (axs ays bxs bys : List ℕ)
    → Leaned (seen (point_of m) (point_of n) (point_of a0) (point_of a1)) wa → Leaned (seen (point_of m) (point_of n) (point_of b0) (point_of b1)) wb
    → Is (dot (point_of m) (point_of d0) ⊞ dot (point_of n) (point_of d1)) s c → Corners axs ays → Corners bxs bys → Beyond wa wb c k axs ays bxs bys
    → FormApart (point_of m) (point_of n) (point_of a0) (point_of a1) (point_of b0) (point_of b1) (point_of d0) (point_of d1) k axs ays bxs bys
form-law m n a0 a1 b0 b1 d0 d1 k wa wb c s axs ays bxs bys ha hb hc ca cb far i j l r =
    let v = corner_of axs ays i in
    let w = corner_of bxs bys j in
    let A = rounded-dot (seen (point_of m) (point_of n) (point_of a0) (point_of a1)) wa v ha (place-within v.x.plus (ca.small-x i l)) (place-within
    v.y.plus (ca.small-y i l)) in
    let B = rounded-dot (seen (point_of m) (point_of n) (point_of b0) (point_of b1)) wb w hb (place-within w.x.plus (cb.small-x j r)) (place-within
    w.y.plus (cb.small-y j r)) in
    omega (
      arith,
      far i j l r,
      hc.is,
      A.upper,
      B.lower,
      seen-form (point_of m) (point_of n) (point_of a0) (point_of a1) v,
      seen-form (point_of m) (point_of n)
          (point_of b0) (point_of b1) w,
    )

-- ---- the four forms of the bodies
as-product : (z : Int) → of_nat 1073741824 ⊠ z ≃ times30 z
unfolding ◌⊠◌
as-product z = omega arith

none_left : (p : Point) → dot origin p ≃ 0Int
unfolding ◌⊠◌
none_left p = omega arith

none_right : (p : Point) → dot p origin ≃ 0Int
unfolding ◌⊠◌
none_right p = omega arith

end-form : (n d p v : Point) → dot n (sum (scaled (of_nat 2147483648) d) (turned_by (doubled p) v)) ≃ twice (times30 (dot n d) ⊞ dot n (turned_by p v))
end-form n d p v = omega (
  arith,
  as-product (dot n d),
  ring (var 0 :* (lit (of_nat 2147483648) :* var 2 :+ ((var 4 :+ var 4) :* var 6 :- (var 5 :+ var 5) :* var 7)) :+ var 1 :* (lit (of_nat 2147483648) :* var 3
      :+ ((var 5 :+ var 5) :* var 6 :+ (var 4 :+ var 4) :* var 7)))
      ((lit (of_nat 1073741824) :* (var 0 :* var 2 :+ var 1 :* var 3) :+ (var 0 :* (var 4 :* var 6 :- var 5 :* var 7) :+ var 1 :* (var 5 :* var 6 :+ var 4
      :* var 7)))
      :+ (lit (of_nat 1073741824) :* (var 0 :* var 2 :+ var 1 :* var 3) :+ (var 0 :* (var 4 :* var 6 :- var 5 :* var 7) :+ var 1 :* (var 5 :* var 6 :+ var 4
      :* var 7))))
      (n.x ∷ n.y ∷ d.x ∷ d.y ∷ p.x ∷ p.y ∷ v.x ∷ v.y ∷ []) tt,
)

mid-form : (n d t v : Point) → dot n (sum (scaled (of_nat 1073741824) d) (turned_by t v)) ≃ times30 (dot n d) ⊞ dot n (turned_by t v)
mid-form n d t v = omega (
  arith,
  as-product (dot n d),
  ring (var 0 :* (lit (of_nat 1073741824) :* var 2 :+ (var 4 :* var 6 :- var 5 :* var 7)) :+ var 1 :* (lit (of_nat 1073741824) :* var 3 :+ (var 5 :* var 6 :+
      var 4 :* var 7)))
      (lit (of_nat 1073741824) :* (var 0 :* var 2 :+ var 1 :* var 3) :+ (var 0 :* (var 4 :* var 6 :- var 5 :* var 7) :+ var 1 :* (var 5 :* var 6 :+ var 4 :*
      var 7)))
      (n.x ∷ n.y ∷ d.x ∷ d.y ∷ t.x ∷ t.y ∷ v.x ∷ v.y ∷ []) tt,
)

module _ (n0 n1 : Vector) (a b : Arc) (d0 d2 : Vector) (k : ℕ) (axs ays bxs bys : List ℕ) where
  abbrev N0 : Point
  N0 = point_of n0

  abbrev N1 : Point
  N1 = point_of n1

  abbrev D0 : Point
  D0 = point_of d0

  abbrev D2 : Point
  D2 = point_of d2

  abbrev D1 : Point
  D1 = sum D0 D2

  pub away-law : FormApart N0 origin (point_of a.p0) origin (point_of b.p0) origin D0 origin k axs ays bxs bys
      → FormApart N1 N0 (point_of a.p0) (point_of a.t) (point_of b.p0) (point_of b.t) D0 D1 (3 * k) axs ays bxs bys
      → FormApart N0 N1 (point_of a.p2) (point_of a.t) (point_of b.p2) (point_of b.t) D2 D1 (3 * k) axs ays bxs bys
      → FormApart N1 origin (point_of a.p2) origin (point_of b.p2) origin D2 origin k axs ays bxs bys
      → AllAway n0 n1 a b d0 d2 k axs ays bxs bys
  away-law f0 f1 f2 f3 i j l r =
      let v = corner_of axs ays i in
      let w = corner_of bxs bys j in
      let P0 = point_of a.p0 in
      let T = point_of a.t in
      let P2 = point_of a.p2 in
      let Q0 = point_of b.p0 in
      let U = point_of b.t in
      let Q2 = point_of b.p2 in
      let z0 = none_right N0 in
      let z1 = none_right N1 in
      record {
        b0 = omega (
          arith,
          f0 i j l r,
          z0,
          end-form N0 origin P0 v,
          end-form N0 D0 Q0 w,
          none_left (turned_by origin v),
          none_left (turned_by origin w),
          none_left origin,
        );
        b1 = omega (arith, f1 i j l r, z0, z1, end-form N1 origin P0 v, end-form N1 D0 Q0 w, mid-form N0 origin T v, mid-form N0 D1 U w);
        b2 = omega (arith, f2 i j l r, z0, z1, end-form N0 origin P2 v, end-form N0 D2 Q2 w, mid-form N1 origin T v, mid-form N1 D1 U w);
        b3 = omega (
          arith,
          f3 i j l r,
          z1,
          end-form N1 origin P2 v,
          end-form N1 D2 Q2 w,
          none_left (turned_by origin v),
          none_left (turned_by origin w),
          none_left origin,
        );
      }

-- ---- the bounds of each form, from those of all
abbrev pub no_vector : Vector
no_vector = record { x = record { p = 0; m = 0 }; y = record { p = 0; m = 0 } }

abbrev pub sum_vector : Vector → Vector → Vector
sum_vector d e = record { x = record { p = d.x.p + e.x.p; m = d.x.m + e.x.m }; y = record { p = d.y.p + e.y.p; m = d.y.m + e.y.m } }

none-small : (s : ℕ) → Sized s no_vector
none-small s = record { x = omega arith; y = omega arith }

sum-small : (d e : Vector) → Sized 536870912 d → Sized 536870912 e → Sized 1073741824 (sum_vector d e)
sum-small d e h l = record { x = omega (arith, h.x, l.x); y = omega (arith, h.y, l.y) }

module _ (n0 n1 : Vector) (a b : Arc) (d0 d2 : Vector) (k : ℕ) (axs ays bxs bys : List ℕ) (h : FourBounds n0 n1 a b d0 d2 k axs ays bxs bys) where
  end-bounds : (n p q d : Vector) → Sized 268435456 n → Sized 1207959552 p → Sized 1207959552 q → Sized 536870912 d → Bounds n no_vector p no_vector q
      no_vector d no_vector k axs ays bxs bys
  end-bounds n p q d hn hp hq hd = record {
    turn-a = record { m-small = hn; n-small = none-small 268435456; c0-small = hp; c1-small = none-small 2415919104 };
    turn-b = record { m-small = hn; n-small = none-small 268435456; c0-small = hq; c1-small = none-small 2415919104 };
    d0-small = hd;
    d1-small = none-small 1073741824;
    margin = omega (arith, h.margin);
    corners-a = h.corners-a;
    corners-b = h.corners-b;
  }

  mid-bounds : (m n p q d : Vector) → Sized 268435456 m → Sized 268435456 n → Sized 1207959552 p → Sized 1207959552 q → Sized 536870912 d
      → Bounds m n p a.t q b.t d (sum_vector d0 d2) (3 * k) axs ays bxs bys
  mid-bounds m n p q d hm hn hp hq hd = record {
    turn-a = record { m-small = hm; n-small = hn; c0-small = hp; c1-small = h.a_small.t };
    turn-b = record { m-small = hm; n-small = hn; c0-small = hq; c1-small = h.b-small.t };
    d0-small = hd;
    d1-small = sum-small d0 d2 h.d0-small h.d2-small;
    margin = omega (arith, h.margin);
    corners-a = h.corners-a;
    corners-b = h.corners-b;
  }

  pub bounds0 : Bounds n0 no_vector a.p0 no_vector b.p0 no_vector d0 no_vector k axs ays bxs bys
  bounds0 = end-bounds n0 a.p0 b.p0 d0 h.n0-small h.a_small.p0 h.b-small.p0 h.d0-small

  pub bounds1 : Bounds n1 n0 a.p0 a.t b.p0 b.t d0 (sum_vector d0 d2) (3 * k) axs ays bxs bys
  bounds1 = mid-bounds n1 n0 a.p0 b.p0 d0 h.n1-small h.n0-small h.a_small.p0 h.b-small.p0 h.d0-small

  pub bounds2 : Bounds n0 n1 a.p2 a.t b.p2 b.t d2 (sum_vector d0 d2) (3 * k) axs ays bxs bys
  bounds2 = mid-bounds n0 n1 a.p2 b.p2 d2 h.n0-small h.n1-small h.a_small.p2 h.b-small.p2 h.d2-small

  pub bounds3 : Bounds n1 no_vector a.p2 no_vector b.p2 no_vector d2 no_vector k axs ays bxs bys
  bounds3 = end-bounds n1 a.p2 b.p2 d2 h.n1-small h.a_small.p2 h.b-small.p2 h.d2-small
