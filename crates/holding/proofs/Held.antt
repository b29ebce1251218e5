-- One body at a moment, held at three of its corners: its turn, its weighted point, and what they are off by. Assumes nothing.
use mathlib.Core.Path.{◌≡◌, refl, subst}
use mathlib.Core.List.{List, [], ◌∷◌}
use Prim.Native.Nat.{ℕ, zero, suc, ◌+◌, ◌-◌, ◌*◌, ◌≤◌, ◌<◌}
use native.Mathlib.Nat.{mul-le-mul_left}
use native.Mathlib.Omega.{arith}
use lib.ListN.{length}
use Rattle.integers.specs.Signed.{Int, 0Int, of_nat, ◌⊞◌, ◌⊟◌, ◌⊠◌, ◌≼◌, ◌≃◌}
use Rattle.integers.specs.Whole.{Within}
use Rattle.integers.specs.Polynomial.{var, lit, ◌:+◌, ◌:-◌, ◌:*◌}
use Rattle.integers.proofs.Signed.{⊠-cong, ⊠-nonneg, ⊠-square}
use Rattle.integers.proofs.Sized.{within-product}
use Rattle.integers.proofs.Ring.{ring}
use Rattle.plane.specs.Plane.{Point, sum, difference, scaled, dot, total, sum_below}
use Rattle.plane.specs.Outline.{PointOf, divisor, dividend}
use Rattle.plane.proofs.Weights.{⊠-mono, on_corners, moved-to-corners}
use Rattle.whole_move.proofs.Lengths.{longer}
use Rattle.whole_move.proofs.Turns.{square-within}
use Rattle.whole_way.specs.Mover.{Mover}
use Rattle.whole_touch.specs.Touch.{frame, lengthened}
use Rattle.whole_touch.specs.Seen.{Near, Small, Seen}
use Rattle.whole_touch.proofs.Corners.{inside-by-corners}
use Rattle.board.specs.declared.Pair.{Pair}
use Rattle.board.specs.declared.Vector.{Vector}
use Rattle.board.specs.Pairs.{int_of, point_of, size_of, Sized}
use Rattle.board.specs.Corners.{corner_of}
use Rattle.board.specs.declared.GridBody.{GridBody}
use Rattle.board.specs.Board.{Inside, StandsForBody}
use Rattle.standing.specs.Cut.{Cut, MidVector, Stretched}
use Rattle.holding.specs.Grip as G
use Rattle.holding.specs.Grip.{moment_at}
use Rattle.holding.proofs.Parts.{itself, nat-product, cut-within, turn-part, point-part}
use Rattle.holding.proofs.Window as Window

abbrev pub three : ℕ → ℕ → ℕ → ℕ → ℕ
three a b c zero = a
three a b c (suc zero) = b
three a b c (suc (suc n)) = c

three-below : (n a b c : ℕ) → a < n → b < n → c < n → (i : ℕ) → i < 3 → three a b c i < n
three-below n a b c ha hb hc zero l = ha
three-below n a b c ha hb hc (suc zero) l = hb
three-below n a b c ha hb hc (suc (suc i)) l = hc

-- ---- a corner that is within 2 unit, in each part, of unit times one that lies within R
nine : (unit : ℕ) → of_nat (2 * unit) ⊠ of_nat (2 * unit) ⊞ of_nat (2 * unit) ⊠ of_nat (2 * unit) ≼ of_nat (3 * unit) ⊠ of_nat (3 * unit)
unfolding ◌⊠◌
nine unit = omega arith

scaled-within : (n R : Int) (v : Point) → dot v v ≼ R ⊠ R → dot (scaled n v) (scaled n v) ≼ n ⊠ R ⊠ (n ⊠ R)
scaled-within n R v h = omega (
  arith,
  ⊠-mono (n ⊠ n) (dot v v) (R ⊠ R) (⊠-square n) h,
  ring (var 0 :* var 1 :* (var 0 :* var 1) :+ var 0 :* var 2 :* (var 0 :* var 2)) (var 0 :* var 0 :* (var 1 :* var 1 :+ var 2 :* var 2)) (n ∷ v.x ∷ v.y ∷
      []) tt,
  ring (var 0 :* var 1 :* (var 0 :* var 1)) (var 0 :* var 0 :* (var 1 :* var 1)) (n ∷ R ∷ []) tt,
)

corner-inside : (unit R : ℕ) (X v : Point) → Within (2 * unit) (X.x ⊟ of_nat unit ⊠ v.x) → Within (2 * unit) (X.y ⊟ of_nat unit ⊠ v.y) → dot v v ≼ of_nat
    R ⊠ of_nat R
    → dot X X ≼ of_nat (unit * (R + 3)) ⊠ of_nat (unit * (R + 3))
corner-inside unit R X v hx hy h =
    let n = of_nat unit in
    let big = scaled n v in
    let d = difference X big in
    let M = of_nat (2 * unit) in
    let n_r = n ⊠ of_nat R in
    let t = of_nat (3 * unit) in
    let d-short : dot d d ≼ t ⊠ t = omega (
      arith,
      nine unit,
      square-within d.x M (omega (arith, hx.upper)) (omega (arith, hx.lower)),
      square-within
          d.y M (omega (arith, hy.upper)) (omega (arith, hy.lower)),
    ) in
    let both = longer big d n_r t (⊠-nonneg n (of_nat R) (omega arith) (omega arith)) (omega arith) (scaled-within n (of_nat R) v h) d-short in
    let all : n_r ⊞ t ≃ of_nat (unit * (R + 3)) = omega (arith, nat-product unit R) in
    omega (
      arith,
      both,
      ⊠-cong (big.x ⊞ d.x) X.x (big.x ⊞ d.x) X.x (omega arith) (omega arith),
      ⊠-cong (big.y ⊞ d.y) X.y (big.y ⊞ d.y) X.y (omega arith) (omega arith),
      ⊠-cong (n_r ⊞ t) (of_nat (unit * (R + 3))) (n_r ⊞ t) (of_nat (unit * (R + 3))) all all,
    )

-- ---- sizes
size-within : (s : ℕ) (a : Pair) → size_of a ≤ s → Within s (int_of a)
size-within s a h = record { upper = omega arith; lower = omega arith }

-- what is within e of k times a pair of size at most s
near-small : (k s e : ℕ) (a : Pair) (z : Int) → size_of a ≤ s → Within e (z ⊟ of_nat k ⊠ int_of a) → Within (k * s + e) z
near-small k s e a z h l =
    let p = within-product k s (of_nat k) (int_of a) (itself k) (size-within s a h) in
    record { upper = omega (arith, p.upper, l.upper); lower = omega (arith, p.lower, l.lower) }

-- made `finer` times as large, with other centres
abbrev pub sized : ℕ → Point → Point → Mover → Mover
sized finer c d o = record {
  count = o.count;
  corner = λ i. scaled (of_nat finer) (o.corner i);
  centre1 = c;
  centre2 = d;
  heading1 = o.heading1;
  heading2 = o.heading2;
}

abbrev pub whole_at : ℕ → ℕ
whole_at k = (moment_at k).u + (moment_at k).w

pub whole_is : (k : ℕ) → k ≤ 16777216 → 16777216 ≡ whole_at k
whole_is k h = omega arith

-- the scale of a turn
abbrev pub scale_of : (k unit : ℕ) → ℕ
scale_of k unit = unit * (whole_at k * 67108864)

module _ (k unit finer : ℕ) (early : k ≤ 16777216) (some-unit : 0 < unit) where
  abbrev U : ℕ
  U = scale_of k unit

  whole-least : 1 ≤ whole_at k * 67108864
  whole-least = omega arith

  pub some-scale : 0 < U
  some-scale = omega (arith, mul-le-mul_left unit whole-least)

  -- a heading or a centre at the moment
  pub mid-within : (a b r : Pair) → Cut 16777216 (of_nat (16777216 - k) ⊠ int_of a ⊞ of_nat k ⊠ int_of b) r → Within (whole_at k) (of_nat (16777216 - k) ⊠ int_of
      a ⊞ of_nat k ⊠ int_of b ⊟ of_nat (whole_at k) ⊠ int_of r)
  mid-within a b r h = subst (λ (n : ℕ). Within n (of_nat (16777216 - k) ⊠ int_of a ⊞ of_nat k ⊠ int_of b ⊟ of_nat n ⊠ int_of r)) (whole_is k early) (cut-within
      16777216 (of_nat (16777216 - k) ⊠ int_of a ⊞ of_nat k ⊠ int_of b) r h)

  module _ (g : GridBody) (xs ys : List ℕ) (o : Mover) (stands : StandsForBody unit finer g xs ys o) (c1 c2 : Point) where
    abbrev body : Mover
    body = sized finer c1 c2 o

    -- ---- the turn
    module _ (l r : ℕ) (some-l : 0 < l) (blur : l + 33554432 ≤ 33554432 * r) (L P : Vector) (mid : MidVector k g.q1 g.q2 L) (stretched : Stretched l
        L 0 L P) (small : Sized 1207959552 P) where
      none : (x : Int) → of_nat 0 ⊠ x ≃ 0Int
      none x = ring (lit 0Int :* var 0) (lit 0Int) (x ∷ []) tt

      stretch-within : (x p : Pair) → Cut 67108864 (of_nat l ⊠ int_of x ⊞ of_nat 0 ⊠ int_of x) p → Within 67108864 (of_nat l ⊠ int_of x ⊟ of_nat 67108864 ⊠ int_of p)
      stretch-within x p h =
          let c = cut-within 67108864 (of_nat l ⊠ int_of x ⊞ of_nat 0 ⊠ int_of x) p h in
          record { upper = omega (arith, none (int_of x), c.upper); lower = omega (arith, none (int_of x), c.lower) }

      turn_near : Near (U * r) (lengthened (moment_at k) (1073741824 * l) body) (scaled (of_nat U) (point_of P))
      turn_near = record {
        x = turn-part 1073741824 (16777216 - k) k l unit (whole_at k) r o.heading1.x o.heading2.x (int_of g.q1.x) (int_of g.q2.x) (int_of
            L.x) (int_of P.x) (omega arith) stands.heading1.x stands.heading2.x
            (mid-within g.q1.x g.q2.x L.x mid.x.cut) (stretch-within L.x P.x stretched.x) blur;
        y = turn-part 1073741824 (16777216 - k) k l unit (whole_at k) r o.heading1.y o.heading2.y (int_of g.q1.y) (int_of g.q2.y) (int_of
            L.y) (int_of P.y) (omega arith) stands.heading1.y stands.heading2.y
            (mid-within g.q1.y g.q2.y L.y mid.y.cut) (stretch-within L.y P.y stretched.y) blur;
      }

      K-is : U * 1207959552 + U * r ≡ U * (1207959552 + r)
      K-is = omega arith

      widen : (z : Int) → Within (U * 1207959552 + U * r) z → Within (U * (1207959552 + r)) z
      widen z h = subst (λ (n : ℕ). Within n z) K-is h

      turn_small : Small (U * (1207959552 + r)) (lengthened (moment_at k) (1073741824 * l) body)
      turn_small = record {
        x = widen (lengthened (moment_at k) (1073741824 * l) body).x (near-small U 1207959552 (U * r) P.x (lengthened (moment_at k) (1073741824 * l)
            body).x small.x turn_near.x);
        y = widen (lengthened (moment_at k) (1073741824 * l) body).y (near-small U 1207959552 (U * r) P.y (lengthened (moment_at k) (1073741824 * l)
            body).y small.y turn_near.y);
      }

      seen-small : Small (U * (1207959552 + r)) (scaled (of_nat U) (point_of P))
      seen-small =
          let px = within-product U 1207959552 (of_nat U) (int_of P.x) (itself U) (size-within 1207959552 P.x small.x) in
          let py = within-product U 1207959552 (of_nat U) (int_of P.y) (itself U) (size-within 1207959552 P.y small.y) in
          record {
            x = record { upper = omega (arith, px.upper); lower = omega (arith, px.lower) };
            y = record {
              upper = omega (arith, py.upper);
              lower = omega (arith, py.lower);
            };
          }

      module _ (z E : ℕ) (tame : z ≤ 134217728) (reach : 5 * ((g.reach + 3) * (z + 1)) ≤ 8589934592 * E)
          (long : of_nat 1152921504606846976 ⊞ of_nat (Window.spread U z r) ≼ dot (point_of P) (point_of P) ⊞ of_nat (1073741824 * z))
          (short : dot (point_of P) (point_of P) ⊞ of_nat (Window.spread U z r) ≼ of_nat 1152921504606846976 ⊞ of_nat (1073741824 * z))
          (inside : Inside g.reach xs ys (length xs)) (p : PointOf (frame body)) where
        within : (i : ℕ) → i < o.count → dot (scaled (of_nat finer) (o.corner i)) (scaled (of_nat finer) (o.corner i)) ≼ of_nat (unit * (g.reach + 3)) ⊠
            of_nat (unit * (g.reach + 3))
        within i h =
            let h' : i < length xs = omega (arith, stands.count) in
            corner-inside unit g.reach (scaled (of_nat finer) (o.corner i)) (corner_of xs ys i) (stands.corner i h').x (stands.corner i h').y (inside
            i h')

        abbrev seen : Seen (moment_at k) (Window.F U z r) (Window.slack U z r) (1073741824 * l) body p (U * unit * (1073741824 * E)) (scaled (of_nat U)
            (point_of P))
        seen = record {
          y = Window.y U z r;
          R = unit * (g.reach + 3);
          e = U * r;
          K = U * (1207959552 + r);
          some = omega arith;
          room = Window.room U z r some-scale tame;
          tame = Window.held U z r some-scale tame;
          turn = turn_near;
          small = turn_small;
          small-seen = seen-small;
          long = Window.long U z r (point_of P) long;
          short = Window.short U z r (point_of P) short;
          inside = inside-by-corners (frame body) p (unit * (g.reach + 3)) within;
          window = Window.window U z r some-scale tame unit (g.reach + 3) E reach;
        }

    -- ---- the point
    module _ (i0 i1 i2 w0 w1 w2 : ℕ) (all : w0 + w1 + w2 ≡ 268435456) (h0 : i0 < length xs) (h1 : i1 < length xs) (h2 : i2 < length xs) where
      named : (i : ℕ) → i < 3 → three i0 i1 i2 i < o.count
      named = three-below o.count i0 i1 i2 (omega (arith, stands.count)) (omega (arith, stands.count)) (omega (arith, stands.count))

      abbrev weights : ℕ → ℕ
      weights = on_corners (three i0 i1 i2) 3 (three w0 w1 w2)

      abbrev pub held_total : ℕ
      held_total = total o.count weights

      pub total-is : 268435456 ≡ held_total
      total-is = let t = (moved-to-corners (λ i. 0Int) (three i0 i1 i2) o.count 3 (three w0 w1 w2) named).0 in omega (arith, t, all)

      abbrev pub held_point : PointOf (frame body)
      held_point = record { weight = weights; some = omega (arith, total-is) }

      module _ (a : Vector) (small : Sized 536870912 a)
          (cut-x : Cut 268435456 (of_nat w0 ⊠ (corner_of xs ys i0).x ⊞ of_nat w1 ⊠ (corner_of xs ys i1).x ⊞ of_nat w2 ⊠ (corner_of xs ys i2).x) a.x)
          (cut-y : Cut 268435456 (of_nat w0 ⊠ (corner_of xs ys i0).y ⊞ of_nat w1 ⊠ (corner_of xs ys i1).y ⊞ of_nat w2 ⊠ (corner_of xs ys i2).y) a.y) where
        retold : (z : Int) (r : Pair) → Cut 268435456 z r → Within held_total (z ⊟ of_nat held_total ⊠ int_of r)
        retold z r h = subst (λ (n : ℕ). Within n (z ⊟ of_nat n ⊠ int_of r)) total-is (cut-within 268435456 z r h)

        pub point-near : Near (3 * (unit * held_total)) (dividend (frame body) held_point) (scaled (of_nat (unit * held_total)) (point_of a))
        point-near =
            let X : ℕ → Int = λ i. of_nat finer ⊠ (o.corner i).x in
            let Y : ℕ → Int = λ i. of_nat finer ⊠ (o.corner i).y in
            let mx = (moved-to-corners X (three i0 i1 i2) o.count 3 (three w0 w1 w2) named).1 in
            let my = (moved-to-corners Y (three i0 i1 i2) o.count 3 (three w0 w1 w2) named).1 in
            let px = point-part w0 w1 w2 unit held_total (X i0) (X i1) (X i2) (corner_of xs ys i0).x (corner_of xs ys i1).x (corner_of xs ys i2).x (int_of
            a.x) (omega (arith, all, total-is)) (stands.corner i0 h0).x (stands.corner i1 h1).x (stands.corner i2 h2).x
            (retold (of_nat w0 ⊠ (corner_of xs ys i0).x ⊞ of_nat w1 ⊠ (corner_of xs ys i1).x ⊞ of_nat w2 ⊠ (corner_of xs ys i2).x) a.x cut-x) in
            let py = point-part w0 w1 w2 unit held_total (Y i0) (Y i1) (Y i2) (corner_of xs ys i0).y (corner_of xs ys i1).y (corner_of xs ys i2).y (int_of
            a.y) (omega (arith, all, total-is)) (stands.corner i0 h0).y (stands.corner i1 h1).y (stands.corner i2 h2).y
            (retold (of_nat w0 ⊠ (corner_of xs ys i0).y ⊞ of_nat w1 ⊠ (corner_of xs ys i1).y ⊞ of_nat w2 ⊠ (corner_of xs ys i2).y) a.y cut-y) in
            record {
              x = record { upper = omega (arith, mx, px.upper); lower = omega (arith, mx, px.lower) };
              y = record {
                upper = omega (
                  arith,
                  my,
                  py.upper,
                );
                lower = omega (arith, my, py.lower);
              };
            }

        pub point-small : Small (unit * held_total * 536870912 + 3 * (unit * held_total)) (dividend (frame body) held_point)
        point-small = record {
          x = near-small (unit * held_total) 536870912 (3 * (unit * held_total)) a.x (dividend (frame body) held_point).x small.x point-near.x;
          y = near-small (unit * held_total) 536870912 (3 * (unit * held_total)) a.y (dividend (frame body) held_point).y small.y point-near.y;
        }

-- ---- all of it
pub record HeldBody (k unit : ℕ) (body : Mover) (l r E : ℕ) (P a : Vector) : Type 0 where
  pub z : ℕ
  pub p : PointOf (frame body)
  pub seen : Seen (moment_at k) (scale_of k unit * 1073741824) (scale_of k unit * scale_of k unit * 1073741824) (1073741824 * l) body p (scale_of k unit * unit
      * (1073741824 * E)) (scaled (of_nat (scale_of k unit)) (point_of P))
  pub e-is : seen.e ≡ scale_of k unit * r
  pub K-is : seen.K ≡ scale_of k unit * (1207959552 + r)
  pub near : Near (3 * (unit * total body.count p.weight)) (dividend (frame body) p) (scaled (of_nat (unit * total body.count p.weight))
      (point_of a))
  pub small : Small (unit * total body.count p.weight * 536870912 + 3 * (unit * total body.count p.weight)) (dividend (frame body) p)

module _ (k unit finer : ℕ) (early : k ≤ 16777216) (some-unit : 0 < unit) (g : GridBody) (xs ys : List ℕ) (o : Mover) (stands : StandsForBody unit finer g
    xs ys o) (c1 c2 : Point) where
  pub held-body : (l i0 i1 i2 w0 w1 w2 r E : ℕ) (P a x : Vector) → w0 + w1 + w2 ≡ 268435456 → i0 < length xs → i1 < length xs → i2 < length xs → Inside
      g.reach xs ys (length xs)
      → G.Held g xs ys k l i0 i1 i2 w0 w1 w2 r E P a x → HeldBody k unit (sized finer c1 c2 o) l r E P a
  held-body l i0 i1 i2 w0 w1 w2 r E P a x all h0 h1 h2 inside h =
      let p = held_point k unit finer early some-unit g xs ys o stands c1 c2 i0 i1 i2 w0 w1 w2 all h0 h1 h2 in
      let small : Sized 536870912 a = record { x = h.point.x.small; y = h.point.y.small } in
      record {
        z = h.z;
        p = p;
        seen = seen k unit finer early some-unit g xs ys o stands c1 c2 l r h.some h.blur.enough h.heading P h.mid h.stretched h.small
            h.z E h.steady.tame h.reach h.steady.long h.steady.short inside p;
        e-is = refl;
        K-is = refl;
        near = point-near k unit finer early some-unit g xs ys o stands c1 c2 i0 i1 i2 w0 w1 w2 all h0 h1 h2 a small h.point.x.cut h.point.y.cut;
        small = point-small k unit finer early some-unit g xs ys o stands c1 c2 i0 i1 i2 w0 w1 w2 all h0 h1 h2 a small h.point.x.cut h.point.y.cut;
      }
