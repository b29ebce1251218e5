-- One body: what the check is shown of it, on the grid, is near enough to the planned one. Assumes nothing.
use mathlib.Core.Path.{◌≡◌, refl}
use mathlib.Core.Logic.{◌⊎◌, inl, inr}
use mathlib.Core.List.{List, [], ◌∷◌}
use Prim.Native.Nat.{ℕ, ◌+◌, ◌-◌, ◌*◌, ◌≤◌, ◌<◌}
use native.Mathlib.Nat.{mul-le-mul_left}
use native.Mathlib.Omega.{arith}
use lib.ListN.{length}
use Rattle.integers.specs.Signed.{Int, 0Int, of_nat, ◌⊞◌, ◌⊟◌, ◌⊠◌, neg, ◌≼◌, ◌≃◌}
use Rattle.integers.specs.Whole.{Within}
use Rattle.integers.specs.Polynomial.{var, lit, ◌:+◌, ◌:-◌, ◌:*◌}
use Rattle.integers.proofs.Signed.{⊠-nonneg, ⊠-square, ⊠-cong, ⊠-zero, ⊠-comm}
use Rattle.integers.proofs.Ring.{ring}
use Rattle.integers.proofs.Sized.{within-product}
use Rattle.plane.specs.Plane.{Point, sum, difference, scaled, dot}
use Rattle.plane.proofs.Weights.{⊠-mono}
use Rattle.whole_move.specs.Blend.{twice, thrice, line}
use Rattle.whole_move.specs.Piece.{Controls, Body, turned_by, control, LongAtLeast, LongAtMost, Near, Shown, Disc, ShownAs}
use Rattle.whole_move.proofs.Forms.{enlarged}
use Rattle.whole_move.proofs.Rounded.{Small, long-rounded, short-rounded, control-near}
use Rattle.whole_move.proofs.Lengths.{below_root, longer}
use Rattle.whole_move.proofs.Turns.{square-within}
use Rattle.whole_way.specs.Mover.{Mover, Piece, piece_from, on_piece, resized}
use Rattle.board.specs.declared.Pair.{Pair}
use Rattle.board.specs.declared.Vector.{Vector}
use Rattle.board.specs.Pairs.{int_of, point_of, size_of, Sized}
use Rattle.board.specs.Corners.{corner_of}
use Rattle.board.specs.declared.GridBody.{GridBody}
use Rattle.board.specs.Board.{Inside, CloseTo, StandsForBody}
use Rattle.board.specs.declared.Arc.{Arc}
use Rattle.standing.specs.Form.{ArcSmall}
use Rattle.standing.specs.Window.{turn_of, Steady}
use Rattle.standing.specs.Cut.{Cut, Mid, MidVector, Stretched, IsArc}
use Rattle.standing.specs.Seen.{ArcAt, Blurred, Turning, Still, Seen}
use Rattle.standing.proofs.Parts.{mid-near, end-near, middle-near}
use Rattle.standing.proofs.Numbers.{turn_length, window_width, length_off, farthest, carried, turn_blur, largest_part, turn_part, corner_blur, margin}
use Rattle.standing.proofs.Numbers as numbers

-- ---- turns made larger
module _ (k : Int) (p q : Point) where
  dot-enlarged : dot (scaled k p) (scaled k q) ≃ k ⊠ k ⊠ dot p q
  dot-enlarged = ring (var 0 :* var 1 :* (var 0 :* var 3) :+ var 0 :* var 2 :* (var 0 :* var 4)) (var 0 :* var 0 :* (var 1 :* var 3 :+ var 2 :* var 4)) (k
      ∷ p.x ∷ p.y ∷ q.x ∷ q.y ∷ []) tt

three-of : (k m : Int) → k ⊠ thrice m ≃ thrice (k ⊠ m)
three-of k m = ring (var 0 :* (var 1 :+ var 1 :+ var 1)) (var 0 :* var 1 :+ var 0 :* var 1 :+ var 0 :* var 1) (k ∷ m ∷ []) tt

middle_of : (k x y : Int) → k ⊠ (twice x ⊞ y) ≃ twice (k ⊠ x) ⊞ k ⊠ y
middle_of k x y = ring (var 0 :* (var 1 :+ var 1 :+ var 2)) (var 0 :* var 1 :+ var 0 :* var 1 :+ var 0 :* var 2) (k ∷ x ∷ y ∷ []) tt

long-enlarged : (k m l : Int) (c : Controls) → l ≼ k ⊠ k ⊠ m → LongAtLeast m c → LongAtLeast l (enlarged k c)
long-enlarged k m l c less h =
    let kk = ⊠-square k in
    let middle = twice (dot c.p1 c.p1) ⊞ dot c.p0 c.p2 in
    record {
      c0 = omega (arith, ⊠-mono (k ⊠ k) m (dot c.p0 c.p0) kk h.c0, dot-enlarged k c.p0 c.p0);
      c1 = omega (arith, ⊠-mono (k ⊠ k) m (dot c.p0 c.p1) kk h.c1, dot-enlarged k c.p0 c.p1);
      c2 = omega (
        arith,
        ⊠-mono (k ⊠ k) (thrice m) middle kk h.c2,
        dot-enlarged k c.p1 c.p1,
        dot-enlarged k c.p0 c.p2,
        three-of (k ⊠ k) m,
        middle_of (k ⊠ k) (dot c.p1 c.p1) (dot c.p0 c.p2),
      );
      c3 = omega (arith, ⊠-mono (k ⊠ k) m (dot c.p1 c.p2) kk h.c3, dot-enlarged k c.p1 c.p2);
      c4 = omega (arith, ⊠-mono (k ⊠ k) m (dot c.p2 c.p2) kk h.c4, dot-enlarged k c.p2 c.p2);
    }

short-enlarged : (k m l : Int) (c : Controls) → k ⊠ k ⊠ m ≼ l → LongAtMost m c → LongAtMost l (enlarged k c)
short-enlarged k m l c more h =
    let kk = ⊠-square k in
    let middle = twice (dot c.p1 c.p1) ⊞ dot c.p0 c.p2 in
    record {
      c0 = omega (arith, ⊠-mono (k ⊠ k) (dot c.p0 c.p0) m kk h.c0, dot-enlarged k c.p0 c.p0);
      c1 = omega (arith, ⊠-mono (k ⊠ k) (dot c.p0 c.p1) m kk h.c1, dot-enlarged k c.p0 c.p1);
      c2 = omega (
        arith,
        ⊠-mono (k ⊠ k) middle (thrice m) kk h.c2,
        dot-enlarged k c.p1 c.p1,
        dot-enlarged k c.p0 c.p2,
        three-of (k ⊠ k) m,
        middle_of (k ⊠ k) (dot c.p1 c.p1) (dot c.p0 c.p2),
      );
      c3 = omega (arith, ⊠-mono (k ⊠ k) (dot c.p1 c.p2) m kk h.c3, dot-enlarged k c.p1 c.p2);
      c4 = omega (arith, ⊠-mono (k ⊠ k) (dot c.p2 c.p2) m kk h.c4, dot-enlarged k c.p2 c.p2);
    }

-- ---- sizes
doubled-within : (p : Pair) → size_of p ≤ 1207959552 → Within 2415919104 (int_of p ⊞ int_of p)
doubled-within p h = record { upper = omega arith; lower = omega arith }

single-within : (p : Pair) → size_of p ≤ 2415919104 → Within 2415919104 (int_of p)
single-within p h = record { upper = omega arith; lower = omega arith }

opposite-square : (x : Int) → neg x ⊠ neg x ≃ x ⊠ x
unfolding ◌⊠◌
opposite-square x = omega arith

-- one part of a point, from its length
part-within : (R : ℕ) (x s : Int) → 0Int ≼ s → x ⊠ x ⊞ s ≼ of_nat R ⊠ of_nat R → Within R x
part-within R x s h l =
    let up = below_root x (of_nat R) (omega arith) (omega arith) in
    let down = below_root (neg x) (of_nat R) (omega arith) (omega (arith, opposite-square x)) in
    record { upper = omega (arith, up); lower = omega (arith, down) }

wider : (a b : ℕ) (x : Int) → a ≤ b → Within a x → Within b x
wider a b x h w = record { upper = omega (arith, w.upper); lower = omega (arith, w.lower) }

-- the grid's body at the scale of the planned one, with a centre as it is
abbrev pub enlarged_body : (U : ℕ) (centre : Controls) → Arc → List ℕ → List ℕ → Body
enlarged_body U centre a xs ys = record {
  count = length xs;
  corner = λ i. scaled (of_nat U) (corner_of xs ys i);
  centre = centre;
  turn = enlarged (of_nat (1048576 * U)) (turn_of a);
}

eight-nine : (U : ℕ) → of_nat (2 * U) ⊠ of_nat (2 * U) ⊞ of_nat (2 * U) ⊠ of_nat (2 * U) ≼ of_nat (3 * U) ⊠ of_nat (3 * U)
unfolding ◌⊠◌
eight-nine U = omega arith

three-more : (U R : ℕ) → (of_nat U ⊠ of_nat R ⊞ of_nat (3 * U)) ⊠ (of_nat U ⊠ of_nat R ⊞ of_nat (3 * U)) ≃ of_nat (farthest U R) ⊠ of_nat (farthest U R)
unfolding ◌⊠◌
three-more U R = omega arith

-- ---- nothing times anything
gone : (c z b : Int) → z ≃ 0Int → c ⊠ z ⊠ b ≃ 0Int
gone c z b h = omega (arith, ⊠-cong (c ⊠ z) 0Int b b (omega (arith, ⊠-cong c c z 0Int refl h, ⊠-zero c)) refl, ⊠-comm 0Int b, ⊠-zero b)

zero-cut : (s t : ℕ) (x y : Int) (P : Pair) → s ≡ 0 → t ≡ 0 → Cut 67108864 (of_nat s ⊠ x ⊞ of_nat t ⊠ y) P → int_of P ≃ 0Int
zero-cut s t x y P hs ht cut = omega (
  arith,
  ⊠-cong (of_nat s) 0Int x x (omega arith) refl,
  ⊠-cong (of_nat t) 0Int y y (omega arith) refl,
  ⊠-comm 0Int x,
  ⊠-zero x,
  ⊠-comm 0Int y,
  ⊠-zero y,
  cut.upper,
  cut.lower,
)

-- a part of a corner's control point, of a turn that is 0
minus-gone : (e : ℕ) (c b d z z' p q : Int) → z ≃ 0Int → z' ≃ 0Int → Within e (p ⊟ q) → Within e (p ⊟ (q ⊞ (c ⊠ z ⊠ b ⊟ c ⊠ z' ⊠ d)))
minus-gone e c b d z z' p q h h' n = record {
  upper = omega (arith, n.upper, gone c z b h, gone c z' d h');
  lower = omega (
    arith,
    n.lower,
    gone c z b h,
    gone c z' d h',
  );
}

plus-gone : (e : ℕ) (c b d z z' p q : Int) → z ≃ 0Int → z' ≃ 0Int → Within e (p ⊟ q) → Within e (p ⊟ (q ⊞ (c ⊠ z ⊠ b ⊞ c ⊠ z' ⊠ d)))
plus-gone e c b d z z' p q h h' n = record {
  upper = omega (arith, n.upper, gone c z b h, gone c z' d h');
  lower = omega (
    arith,
    n.lower,
    gone c z b h,
    gone c z' d h',
  );
}

module _ (U G : ℕ) (some : 0 < U) (k0 k1 : ℕ) (start : k0 ≤ 16777216) (end : k1 ≤ 16777216) (body : GridBody) (xs ys : List ℕ) (o : Mover)
    (stands : StandsForBody U G body xs ys o) (inside : Inside body.reach xs ys (length xs)) where
  abbrev pub piece : Piece
  piece = piece_from 16777216 k0 k1 (omega arith) start end

  abbrev pub planned : (s0 s1 : ℕ) → Body
  planned s0 s1 = on_piece piece (67108864 * U) s0 s1 (resized G o)

  abbrev R : ℕ
  R = body.reach

  index : (i : ℕ) → i < o.count → i < length xs
  index i h = omega (arith, stands.count)

  abbrev at0 : Int → Int → Int
  at0 x y = line (of_nat (16777216 - k0)) (of_nat k0) x y

  abbrev at1 : Int → Int → Int
  at1 x y = line (of_nat (16777216 - k1)) (of_nat k1) x y

  -- ---- headings and turns
  heading-x : (k : ℕ) → k ≤ 16777216 → (L : Vector) → MidVector k body.q1 body.q2 L
      → Within (33554432 * U) (of_nat 1073741824 ⊠ line (of_nat (16777216 - k)) (of_nat k) o.heading1.x o.heading2.x ⊟ of_nat 16777216 ⊠ (of_nat U ⊠
      int_of L.x))
  heading-x k h L mid =
      let n = mid-near U (of_nat 1073741824) U k h o.heading1.x o.heading2.x body.q1.x body.q2.x L.x stands.heading1.x
      stands.heading2.x mid.x in
      record { upper = omega (arith, n.upper); lower = omega (arith, n.lower) }

  heading-y : (k : ℕ) → k ≤ 16777216 → (L : Vector) → MidVector k body.q1 body.q2 L
      → Within (33554432 * U) (of_nat 1073741824 ⊠ line (of_nat (16777216 - k)) (of_nat k) o.heading1.y o.heading2.y ⊟ of_nat 16777216 ⊠ (of_nat U ⊠
      int_of L.y))
  heading-y k h L mid =
      let n = mid-near U (of_nat 1073741824) U k h o.heading1.y o.heading2.y body.q1.y body.q2.y L.y stands.heading1.y
      stands.heading2.y mid.y in
      record { upper = omega (arith, n.upper); lower = omega (arith, n.lower) }

  module _ (l0 l1 r : ℕ) (a : Arc) (is : ArcAt body l0 l1 k0 k1 a) (blur : Blurred l0 l1 r) where
    turn_near : Near (turn_blur U r) (planned l0 l1).turn (enlarged (of_nat (1048576 * U)) (turn_of a))
    turn_near =
        let L0 = is.start in
        let L1 = is.end in
        let x0 = heading-x k0 start L0 is.at-start in
        let y0 = heading-y k0 start L0 is.at-start in
        let x1 = heading-x k1 end L1 is.at-end in
        let y1 = heading-y k1 end L1 is.at-end in
        let h = o.heading1 in
        let k = o.heading2 in
        record {
          x0 = end-near U r l0 (at0 h.x k.x) L0.x a.p0.x blur.first x0 is.is.p0.x;
          y0 = end-near U r l0 (at0 h.y k.y) L0.y a.p0.y blur.first y0 is.is.p0.y;
          x1 = middle-near U r l0 l1 (at1 h.x k.x) (at0 h.x k.x) L1.x L0.x a.t.x blur.first blur.last x1 x0 is.is.t.x;
          y1 = middle-near U r l0 l1 (at1 h.y k.y) (at0 h.y k.y) L1.y L0.y a.t.y blur.first blur.last y1 y0 is.is.t.y;
          x2 = end-near U r l1 (at1 h.x k.x) L1.x a.p2.x blur.last x1 is.is.p2.x;
          y2 = end-near U r l1 (at1 h.y k.y) L1.y a.p2.y blur.last y1 is.is.p2.y;
        }

    -- ---- sizes of turns
    module _ (small : ArcSmall a) where
      abbrev c : Int
      c = of_nat (1048576 * U)

      in-units : (x : Int) → Within 2415919104 x → Within (turn_part U) (c ⊠ x)
      in-units x h =
          let w = within-product (1048576 * U) 2415919104 c x (record { upper = omega arith; lower = omega arith }) h in
          record { upper = omega (arith, w.upper); lower = omega (arith, w.lower) }

      turn_small : Small (turn_part U) (enlarged c (turn_of a))
      turn_small = record {
        x0 = in-units (int_of a.p0.x ⊞ int_of a.p0.x) (doubled-within a.p0.x small.p0.x);
        y0 = in-units (int_of a.p0.y ⊞ int_of a.p0.y) (doubled-within a.p0.y small.p0.y);
        x1 = in-units (int_of a.t.x) (single-within a.t.x small.t.x);
        y1 = in-units (int_of a.t.y) (single-within a.t.y small.t.y);
        x2 = in-units (int_of a.p2.x ⊞ int_of a.p2.x) (doubled-within a.p2.x small.p2.x);
        y2 = in-units (int_of a.p2.y ⊞ int_of a.p2.y) (doubled-within a.p2.y small.p2.y);
      }

      -- with room for the blur
      abbrev most : ℕ
      most = 2814749767106560 * U

      roomy : (x : Int) → Within (turn_part U) x → Within most x
      roomy x h = record { upper = omega (arith, h.upper); lower = omega (arith, h.lower) }

      near-roomy : (x y : Int) → Within (turn_blur U r) (x ⊟ y) → Within (turn_part U) y → Within most x
      near-roomy x y n h =
          let few = mul-le-mul_left U blur.few in
          record { upper = omega (arith, n.upper, h.upper, few); lower = omega (arith, n.lower, h.lower, few) }

      turn-roomy : Small most (enlarged c (turn_of a))
      turn-roomy =
          let e = enlarged c (turn_of a) in
          let s = turn_small in
          record {
            x0 = roomy e.p0.x s.x0;
            y0 = roomy e.p0.y s.y0;
            x1 = roomy e.p1.x s.x1;
            y1 = roomy e.p1.y s.y1;
            x2 = roomy
                e.p2.x s.x2;
            y2 = roomy e.p2.y s.y2;
          }

      planned-roomy : Small most (planned l0 l1).turn
      planned-roomy =
          let t = (planned l0 l1).turn in
          let e = enlarged c (turn_of a) in
          let n = turn_near in
          let s = turn_small in
          record {
            x0 = near-roomy t.p0.x e.p0.x n.x0 s.x0;
            y0 = near-roomy t.p0.y e.p0.y n.y0 s.y0;
            x1 = near-roomy t.p1.x e.p1.x n.x1 s.x1;
            y1 = near-roomy t.p1.y e.p1.y n.y1 s.y1;
            x2 = near-roomy t.p2.x e.p2.x n.x2 s.x2;
            y2 = near-roomy t.p2.y e.p2.y n.y2 s.y2;
          }

      -- ---- its length
      module _ (y : ℕ) (steady : Steady a y) where
        abbrev FF : Int
        FF = of_nat (turn_length U) ⊠ of_nat (turn_length U)

        abbrev off : ℕ
        off = length_off U (y + 5 * r)

        long : LongAtLeast (FF ⊟ of_nat off) (planned l0 l1).turn
        long = long-rounded (turn_blur U r) most (planned l0 l1).turn (enlarged c (turn_of a)) turn_near planned-roomy turn-roomy (FF ⊟ of_nat off)
            (long-enlarged c (of_nat 2147483648 ⊠ of_nat 2147483648 ⊟ of_nat (4294967296 * y)) (FF ⊟ of_nat off ⊞ of_nat (4 * (turn_blur U r * most))) (turn_of a)
            (numbers.long-law U some y r) steady.long)

        short : LongAtMost (FF ⊞ of_nat off) (planned l0 l1).turn
        short = short-rounded (turn_blur U r) most (planned l0 l1).turn (enlarged c (turn_of a)) turn_near planned-roomy turn-roomy (FF ⊞ of_nat off)
            (short-enlarged c (of_nat 2147483648 ⊠ of_nat 2147483648 ⊞ of_nat (4294967296 * y)) (FF ⊞ of_nat off ⊟ of_nat (4 * (turn_blur U r * most))) (turn_of
            a) (numbers.short-law U some y r) steady.short)

  -- ---- corners
  module _ (i : ℕ) (h : i < length xs) where
    abbrev v : Point
    v = corner_of xs ys i

    abbrev W : Point
    W = scaled (of_nat G) (o.corner i)

    grid-x : Within R v.x
    grid-x = part-within R v.x (v.y ⊠ v.y) (⊠-square v.y) (inside i h)

    grid-y : Within R v.y
    grid-y = part-within R v.y (v.x ⊠ v.x) (⊠-square v.x) (omega (arith, inside i h))

    large : (p q : Int) → Within (2 * U) (p ⊟ of_nat U ⊠ q) → Within R q → Within (largest_part U R) p
    large p q n w =
        let e = within-product U R (of_nat U) q (record { upper = omega arith; lower = omega arith }) w in
        record { upper = omega (arith, n.upper, e.upper); lower = omega (arith, n.lower, e.lower) }

    corner-x : Within (largest_part U R) W.x
    corner-x = large W.x v.x (stands.corner i h).x grid-x

    corner-y : Within (largest_part U R) W.y
    corner-y = large W.y v.y (stands.corner i h).y grid-y

    -- U v is at most U R long, what is left at most 3 U
    corner-inside : dot W W ≼ of_nat (farthest U R) ⊠ of_nat (farthest U R)
    corner-inside =
        let first = scaled (of_nat U) v in
        let second = difference W first in
        let k = of_nat U in
        let sx = square-within second.x (of_nat (2 * U)) (omega (arith, (stands.corner i h).x.upper)) (omega (arith, (stands.corner i h).x.lower)) in
        let sy = square-within second.y (of_nat (2 * U)) (omega (arith, (stands.corner i h).y.upper)) (omega (arith, (stands.corner i h).y.lower)) in
        let scaled-short = ⊠-mono (k ⊠ k) (dot v v) (of_nat R ⊠ of_nat R) (⊠-square k) (inside i h) in
        let both = longer first second (k ⊠ of_nat R) (of_nat (3 * U)) (⊠-nonneg k (of_nat R) (omega arith) (omega arith)) (omega arith)
        (omega (
          arith,
          scaled-short,
          dot-enlarged k v v,
          ring (var 0 :* var 0 :* (var 1 :* var 1)) (var 0 :* var 1 :* (var 0 :* var 1)) (k ∷ of_nat R ∷ [])
              tt,
        )) (omega (arith, sx, sy, eight-nine U)) in
        omega (
          arith,
          both,
          ⊠-cong (sum first second).x W.x (sum first second).x W.x (omega arith) (omega arith),
          ⊠-cong (sum first second).y W.y (sum first second).y W.y (omega arith) (omega arith),
          three-more U R,
        )

  -- ---- what the check is shown, about a centre that is within 2 h0 of the planned one in each part
  module _ (centre : Controls) (h0 c : ℕ) (small : h0 ≤ 1125899906842624 * (U * U * c)) (a : Arc) where
    abbrev pub shown : ℕ → Controls
    shown = control (enlarged_body U centre a xs ys)

    module _ (l0 l1 : ℕ) (near : Near (2 * h0) (planned l0 l1).centre centre) (is : ArcAt body l0 l1 k0 k1 a) (arc : ArcSmall a) (E : ℕ) where
      turning-shown : Turning a l0 l1 R E → Shown (turn_length U) (window_width U) (planned l0 l1) (margin U (E + 7 + 2 * c)) shown
      turning-shown t =
          let y = t.y in
          let r = t.r in
          let b = t.blurred in
          let tame : y + 5 * r < 134217728 = omega (arith, t.tame, b.few) in
          record {
            y = length_off U (y + 5 * r);
            R = farthest U R;
            e = 2 * h0 + 2 * corner_blur U R r;
            D = 3 * (h0 + corner_blur U R r);
            E = carried U R (y + 5 * r);
            room = numbers.room-law U some (y + 5 * r) tame;
            tame = numbers.tame-law U some (y + 5 * r) tame;
            long = long l0 l1 r a is b arc y t.steady;
            short = short l0 l1 r a is b arc y t.steady;
            inside = λ i l. corner-inside i (index i l);
            window = numbers.window-law U some R (y + 5 * r) tame;
            near = λ i l. control-near (2 * h0) (turn_blur U r) (2 * U) (largest_part U R) (turn_part U) (planned l0 l1) (enlarged_body U centre a xs ys) i
                near (turn_near l0 l1 r a is b)
                (stands.corner i (index i l)).x (stands.corner i (index i l)).y (corner-x i (index i l)) (corner-y i (index i l)) (turn_small l0 l1 r a
                is b arc);
            rounding = numbers.rounding-law U some h0 (corner_blur U R r);
            enough = numbers.enough-law U some R y r E c h0 t.reach small;
          }

      still-shown : Still l0 l1 R E → R ≤ 805306368 → Disc (turn_length U) (window_width U) (planned 1 1) (margin U (E + 7 + 2 * c)) shown
      still-shown t fits =
          let p = (planned 1 1).centre in
          let z = turn_of a in
          let k = of_nat (1048576 * U) in
          let none : (L L' : Pair) (P : Pair) → Cut 67108864 (of_nat l0 ⊠ int_of L ⊞ of_nat 0 ⊠ int_of L') P → int_of P ⊞ int_of P ≃ 0Int = λ L L' P cut. omega
          (arith, zero-cut l0 0 (int_of L) (int_of L') P t.none0 refl cut) in
          let none' : (L L' : Pair) (P : Pair) → Cut 67108864 (of_nat l1 ⊠ int_of L ⊞ of_nat 0 ⊠ int_of L') P → int_of P ⊞ int_of P ≃ 0Int = λ L L' P cut. omega
          (arith, zero-cut l1 0 (int_of L) (int_of L') P t.none1 refl cut) in
          let x0 : z.p0.x ≃ 0Int = none is.start.x is.start.x a.p0.x is.is.p0.x in
          let y0 : z.p0.y ≃ 0Int = none is.start.y is.start.y a.p0.y is.is.p0.y in
          let x1 : z.p1.x ≃ 0Int = zero-cut l0 l1 (int_of is.end.x) (int_of is.start.x) a.t.x t.none0 t.none1 is.is.t.x in
          let y1 : z.p1.y ≃ 0Int = zero-cut l0 l1 (int_of is.end.y) (int_of is.start.y) a.t.y t.none0 t.none1 is.is.t.y in
          let x2 : z.p2.x ≃ 0Int = none' is.end.x is.end.x a.p2.x is.is.p2.x in
          let y2 : z.p2.y ≃ 0Int = none' is.end.y is.end.y a.p2.y is.is.p2.y in
          record {
            R = farthest U R;
            e = 2 * h0 + 2 * 0;
            D = 3 * (h0 + 0);
            E = margin U (R + 4);
            inside = λ i l. corner-inside i (index i l);
            reach = numbers.disc-law U some R fits;
            near = λ i l.
                let b = of_nat U ⊠ (corner_of xs ys i).x in
                let d = of_nat U ⊠ (corner_of xs ys i).y in
                let wide : (x : Int) → Within (2 * h0) x → Within (2 * h0 + 2 * 0) x = λ x w. wider (2 * h0) (2 * h0 + 2 * 0) x (omega arith) w in
                record {
                  x0 = minus-gone (2 * h0 + 2 * 0) k b d z.p0.x z.p0.y p.p0.x centre.p0.x x0 y0 (wide (p.p0.x ⊟ centre.p0.x) near.x0);
                  y0 = plus-gone (2 * h0 + 2 * 0) k b d z.p0.y z.p0.x p.p0.y centre.p0.y y0 x0 (wide (p.p0.y ⊟ centre.p0.y) near.y0);
                  x1 = minus-gone (2 * h0 + 2 * 0) k b d z.p1.x z.p1.y p.p1.x centre.p1.x x1 y1 (wide (p.p1.x ⊟ centre.p1.x) near.x1);
                  y1 = plus-gone (2 * h0 + 2 * 0) k b d z.p1.y z.p1.x p.p1.y centre.p1.y y1 x1 (wide (p.p1.y ⊟ centre.p1.y) near.y1);
                  x2 = minus-gone (2 * h0 + 2 * 0) k b d z.p2.x z.p2.y p.p2.x centre.p2.x x2 y2 (wide (p.p2.x ⊟ centre.p2.x) near.x2);
                  y2 = plus-gone (2 * h0 + 2 * 0) k b d z.p2.y z.p2.x p.p2.y centre.p2.y y2 x2 (wide (p.p2.y ⊟ centre.p2.y) near.y2);
                };
            rounding = numbers.rounding-law U some h0 0;
            enough = omega (arith, numbers.disc-enough-law U some R E c h0 t.reach small);
          }

      -- a body as it is: with lengths of its turn that are not 0
      pub record Shows : Type 0 where
        pub s0 : ℕ
        pub s1 : ℕ
        pub some0 : 0 < s0
        pub some1 : 0 < s1
        pub as-shown : ShownAs (turn_length U) (window_width U) (planned s0 s1) (margin U (E + 7 + 2 * c)) shown

      pub shows : R ≤ 805306368 → Turning a l0 l1 R E ⊎ Still l0 l1 R E → Shows
      shows fits (inl t) = record { s0 = l0; s1 = l1; some0 = t.some0; some1 = t.some1; as-shown = inl (turning-shown t) }
      shows fits (inr t) = record { s0 = 1; s1 = 1; some0 = omega arith; some1 = omega arith; as-shown = inr (still-shown t fits) }
