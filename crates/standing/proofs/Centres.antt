-- Both bodies: how far B's centre, as A's sees it, is off on the grid; and corners that stay apart on the grid, seen at the scale of the planned way.
-- Assumes nothing.
use mathlib.Core.Path.{◌≡◌, refl}
use mathlib.Core.List.{List, [], ◌∷◌}
use Prim.Native.Nat.{ℕ, ◌+◌, ◌-◌, ◌*◌, ◌≤◌}
use native.Mathlib.Omega.{arith}
use Rattle.integers.specs.Signed.{Int, 0Int, of_nat, ◌⊞◌, ◌⊟◌, ◌⊠◌, ◌≼◌, ◌≺◌, ◌≃◌}
use Rattle.integers.specs.Whole.{Within}
use Rattle.integers.specs.Polynomial.{var, lit, ◌:+◌, ◌:-◌, ◌:*◌}
use Rattle.integers.proofs.Signed.{⊠-cong, ⊠-cong-r}
use Rattle.integers.proofs.Ring.{ring}
use Rattle.integers.proofs.Sized.{within-product}
use Rattle.plane.specs.Plane.{Point, sum, difference, scaled, dot}
use Rattle.whole_move.specs.Blend.{twice, thrice, line}
use Rattle.whole_move.specs.Piece.{Controls, turned_by, control, form0, form1, form2, form3, Away, Near}
use Rattle.whole_move.proofs.Forms.{enlarged, away-enlarged}
use Rattle.whole_way.specs.Mover.{Mover, piece_from, on_piece, resized}
use Rattle.board.specs.declared.Pair.{Pair}
use Rattle.board.specs.declared.Vector.{Vector}
use Rattle.board.specs.Pairs.{int_of, point_of}
use Rattle.board.specs.Corners.{corner_of}
use Rattle.board.specs.Board.{CloseTo}
use Rattle.board.specs.declared.Arc.{Arc}
use Rattle.standing.specs.Form.{grid_body}
use Rattle.standing.specs.Cut.{Mid, MidVector}
use Rattle.standing.proofs.Parts.{mid-near}
use Rattle.standing.proofs.Bodies.{enlarged_body}

-- ---- controls made larger, about others
abbrev pub placed : Int → Controls → Controls → Controls
placed c s d = record { p0 = sum s.p0 (scaled c d.p0); p1 = sum s.p1 (scaled c d.p1); p2 = sum s.p2 (scaled c d.p2) }

pub record Same (a b : Controls) : Type 0 where
  pub x0 : a.p0.x ≃ b.p0.x
  pub y0 : a.p0.y ≃ b.p0.y
  pub x1 : a.p1.x ≃ b.p1.x
  pub y1 : a.p1.y ≃ b.p1.y
  pub x2 : a.p2.x ≃ b.p2.x
  pub y2 : a.p2.y ≃ b.p2.y

-- along n, of a point that is s and another
along : (n p s q : Point) → p.x ≃ s.x ⊞ q.x → p.y ≃ s.y ⊞ q.y → dot n p ≃ dot n s ⊞ dot n q
along n p s q h k = omega (
  arith,
  ⊠-cong-r n.x p.x (s.x ⊞ q.x) h,
  ⊠-cong-r n.y p.y (s.y ⊞ q.y) k,
  ring (var 0 :* (var 2 :+ var 4) :+ var 1 :* (var 3 :+ var 5)) (var 0 :* var 2 :+ var 1 :* var 3 :+ (var 0 :* var 4 :+ var 1 :* var 5)) (n.x ∷ n.y ∷
      s.x ∷ s.y ∷ q.x ∷ q.y ∷ []) tt,
)

-- what stays apart stays so where both are moved and made larger alike
pub away-carried : (n0 n1 : Point) (k K c : Int) (s a b a' b' : Controls) → 0Int ≺ c → K ≼ c ⊠ k → Same a' (placed c s a) → Same b' (placed c s b) → Away
    n0 n1 k a b → Away n0 n1 K a' b'
away-carried n0 n1 k K c s a b a' b' some less sa sb far =
    let f = away-enlarged n0 n1 k c a b some far in
    let ea = enlarged c a in
    let eb = enlarged c b in
    let a00 = along n0 a'.p0 s.p0 ea.p0 sa.x0 sa.y0 in
    let a10 = along n1 a'.p0 s.p0 ea.p0 sa.x0 sa.y0 in
    let a01 = along n0 a'.p1 s.p1 ea.p1 sa.x1 sa.y1 in
    let a11 = along n1 a'.p1 s.p1 ea.p1 sa.x1 sa.y1 in
    let a02 = along n0 a'.p2 s.p2 ea.p2 sa.x2 sa.y2 in
    let a12 = along n1 a'.p2 s.p2 ea.p2 sa.x2 sa.y2 in
    let b00 = along n0 b'.p0 s.p0 eb.p0 sb.x0 sb.y0 in
    let b10 = along n1 b'.p0 s.p0 eb.p0 sb.x0 sb.y0 in
    let b01 = along n0 b'.p1 s.p1 eb.p1 sb.x1 sb.y1 in
    let b11 = along n1 b'.p1 s.p1 eb.p1 sb.x1 sb.y1 in
    let b02 = along n0 b'.p2 s.p2 eb.p2 sb.x2 sb.y2 in
    let b12 = along n1 b'.p2 s.p2 eb.p2 sb.x2 sb.y2 in
    record {
      b0 = omega (arith, f.b0, a00, b00);
      b1 = omega (arith, f.b1, a10, a01, b10, b01);
      b2 = omega (arith, f.b2, a11, a02, b11, b02);
      b3 = omega (arith, f.b3, a12, b12);
    }

-- ---- one corner's control points, on the grid and at the planned scale
module _ (U : ℕ) where
  abbrev pub step : Int
  step = of_nat (1048576 * (U * U))

  step_is : step ≃ of_nat (1048576 * U) ⊠ of_nat U
  unfolding ◌⊠◌
  step_is = omega arith

  -- q is what the centre adds on the grid
  minus-part : (s c q p p' v v' : Int) → c ≃ s ⊞ step ⊠ q
      → c ⊞ (of_nat (1048576 * U) ⊠ p ⊠ (of_nat U ⊠ v) ⊟ of_nat (1048576 * U) ⊠ p' ⊠ (of_nat U ⊠ v')) ≃ s ⊞ step ⊠ (q ⊞ (p ⊠ v ⊟ p' ⊠ v'))
  minus-part s c q p p' v v' h = omega (
    arith,
    h,
    ⊠-cong step (of_nat (1048576 * U) ⊠ of_nat U) (p ⊠ v ⊟ p' ⊠ v') (p ⊠ v ⊟ p' ⊠ v') step_is refl,
    ring (var 0 :* (var 1 :+ var 2)) (var 0 :* var 1 :+ var 0 :* var 2) (step ∷ q ∷ (p ⊠ v ⊟ p' ⊠ v') ∷ []) tt,
    ring (var 0 :* var 2 :* (var 1 :* var 4) :- var 0 :* var 3 :* (var 1 :* var 5)) (var 0 :* var 1 :* (var 2 :* var 4 :- var 3 :* var 5)) (of_nat (1048576
        * U) ∷ of_nat U ∷ p ∷ p' ∷ v ∷ v' ∷ []) tt,
  )

  plus-part : (s c q p p' v v' : Int) → c ≃ s ⊞ step ⊠ q
      → c ⊞ (of_nat (1048576 * U) ⊠ p ⊠ (of_nat U ⊠ v) ⊞ of_nat (1048576 * U) ⊠ p' ⊠ (of_nat U ⊠ v')) ≃ s ⊞ step ⊠ (q ⊞ (p ⊠ v ⊞ p' ⊠ v'))
  plus-part s c q p p' v v' h = omega (
    arith,
    h,
    ⊠-cong step (of_nat (1048576 * U) ⊠ of_nat U) (p ⊠ v ⊞ p' ⊠ v') (p ⊠ v ⊞ p' ⊠ v') step_is refl,
    ring (var 0 :* (var 1 :+ var 2)) (var 0 :* var 1 :+ var 0 :* var 2) (step ∷ q ∷ (p ⊠ v ⊞ p' ⊠ v') ∷ []) tt,
    ring (var 0 :* var 2 :* (var 1 :* var 4) :+ var 0 :* var 3 :* (var 1 :* var 5)) (var 0 :* var 1 :* (var 2 :* var 4 :+ var 3 :* var 5)) (of_nat (1048576
        * U) ∷ of_nat U ∷ p ∷ p' ∷ v ∷ v' ∷ []) tt,
  )

  -- a body about a centre that is s, and what the grid has
  pub same-controls : (s centre : Controls) (d0 d2 : Point) (a : Arc) (xs ys : List ℕ) → Same centre (placed step s (grid_body d0 d2 a xs ys).centre) → (i
      : ℕ)
      → Same (control (enlarged_body U centre a xs ys) i) (placed step s (control (grid_body d0 d2 a xs ys) i))
  same-controls s centre d0 d2 a xs ys h i =
      let g = grid_body d0 d2 a xs ys in
      let q = g.centre in
      let t = g.turn in
      let v = corner_of xs ys i in
      record {
        x0 = minus-part s.p0.x centre.p0.x q.p0.x t.p0.x t.p0.y v.x v.y h.x0;
        y0 = plus-part s.p0.y centre.p0.y q.p0.y t.p0.y t.p0.x v.x v.y h.y0;
        x1 = minus-part s.p1.x centre.p1.x q.p1.x t.p1.x t.p1.y v.x v.y h.x1;
        y1 = plus-part s.p1.y centre.p1.y q.p1.y t.p1.y t.p1.x v.x v.y h.y1;
        x2 = minus-part s.p2.x centre.p2.x q.p2.x t.p2.x t.p2.y v.x v.y h.x2;
        y2 = plus-part s.p2.y centre.p2.y q.p2.y t.p2.y t.p2.x v.x v.y h.y2;
      }

  -- ---- centres
  units : (n : ℕ) → of_nat (n * U) ≃ of_nat n ⊠ of_nat U
  unfolding ◌⊠◌
  units n = omega arith

  step-square : step ≃ of_nat 1048576 ⊠ (of_nat U ⊠ of_nat U)
  unfolding ◌⊠◌
  step-square = omega arith

  abbrev pub f : Int
  f = of_nat (67108864 * U)

  abbrev f' : Int
  f' = of_nat 67108864 ⊠ of_nat U

  -- how far B's centre is off at k / 2^24 of the way, as A's sees it
  abbrev pub off : (G k : ℕ) (B1 B2 A1 A2 d : Int) → Int
  off G k B1 B2 A1 A2 d = of_nat G ⊠ line (of_nat (16777216 - k)) (of_nat k) (B1 ⊟ A1) (B2 ⊟ A2) ⊟ of_nat 16777216 ⊠ (of_nat U ⊠ d)

  pub off-near : (G k : ℕ) → k ≤ 16777216 → (B1 B2 A1 A2 : Int) (d1 d2 r : Pair)
      → Within (2 * U) (of_nat G ⊠ (B1 ⊟ A1) ⊟ of_nat U ⊠ int_of d1) → Within (2 * U) (of_nat G ⊠ (B2 ⊟ A2) ⊟ of_nat U ⊠ int_of d2) → Mid k d1 d2 r
      → Within (50331648 * U) (off G k B1 B2 A1 A2 (int_of r))
  off-near G k h B1 B2 A1 A2 d1 d2 r h1 h2 mid =
      let n = mid-near U (of_nat G) (2 * U) k h (B1 ⊟ A1) (B2 ⊟ A2) d1 d2 r h1 h2 mid in
      record { upper = omega (arith, n.upper); lower = omega (arith, n.lower) }

  -- a control point at an end, and one between: B's less A's and less the grid's
  module _ (G k : ℕ) (B1 B2 A1 A2 d : Int) where
    abbrev j : Int
    j = of_nat (16777216 - k)

    abbrev pub at_b : Int
    at_b = line j (of_nat k) (of_nat G ⊠ B1) (of_nat G ⊠ B2)

    abbrev pub at_a : Int
    at_a = line j (of_nat k) (of_nat G ⊠ A1) (of_nat G ⊠ A2)

    one_end : f ⊠ at_b ⊟ f ⊠ at_a ≃ of_nat (67108864 * U) ⊠ off G k B1 B2 A1 A2 d ⊞ step ⊠ (of_nat 1073741824 ⊠ d)
    one_end = omega (
      arith,
      ⊠-cong f f' at_b at_b (units 67108864) refl,
      ⊠-cong f f' at_a at_a (units 67108864) refl,
      ⊠-cong f f' (off G k B1 B2 A1 A2 d) (off G k B1 B2 A1 A2 d) (units 67108864) refl,
      ⊠-cong step (of_nat 1048576 ⊠ (of_nat U ⊠ of_nat U)) (of_nat 1073741824 ⊠ d) (of_nat 1073741824 ⊠ d) step-square refl,
      ring (lit (of_nat 67108864) :* var 0 :* (var 1 :* (var 3 :* var 4) :+ var 2 :* (var 3 :* var 5)) :- lit (of_nat 67108864) :* var 0 :* (var 1 :* (var 3
          :* var 6) :+ var 2 :* (var 3 :* var 7)))
          (lit (of_nat 67108864) :* var 0 :* (var 3 :* (var 1 :* (var 4 :- var 6) :+ var 2 :* (var 5 :- var 7)) :- lit (of_nat 16777216) :* (var 0 :* var 8))
          :+ lit (of_nat 1048576) :* (var 0 :* var 0) :* (lit (of_nat 1073741824) :* var 8))
          (of_nat U ∷ j ∷ of_nat k ∷ of_nat G ∷ B1 ∷ B2 ∷ A1 ∷ A2 ∷ d ∷ []) tt,
    )

    times-off : Within (50331648 * U) (off G k B1 B2 A1 A2 d) → Within (3377699720527872 * (U * U)) (f ⊠ off G k B1 B2 A1 A2 d)
    times-off h =
        let w = within-product (67108864 * U) (50331648 * U) f (off G k B1 B2 A1 A2 d) (record { upper = omega arith; lower = omega arith }) h in
        record { upper = omega (arith, w.upper); lower = omega (arith, w.lower) }

  twice-left : (x y : Int) → twice x ⊠ y ≃ twice (x ⊠ y)
  unfolding ◌⊠◌
  twice-left x y = omega arith

  half-steps : (d : Int) → step ⊠ (of_nat 2147483648 ⊠ d) ≃ twice (step ⊠ (of_nat 1073741824 ⊠ d))
  half-steps d = ring (var 0 :* (lit (of_nat 2147483648) :* var 1)) (var 0 :* (lit (of_nat 1073741824) :* var 1) :+ var 0 :* (lit (of_nat 1073741824) :* var
      1)) (step ∷ d ∷ []) tt

  both-steps : (d d' : Int) → step ⊠ (of_nat 1073741824 ⊠ (d ⊞ d')) ≃ step ⊠ (of_nat 1073741824 ⊠ d) ⊞ step ⊠ (of_nat 1073741824 ⊠ d')
  both-steps d d' = ring (var 0 :* (lit (of_nat 1073741824) :* (var 1 :+ var 2))) (var 0 :* (lit (of_nat 1073741824) :* var 1) :+ var 0 :* (lit (of_nat
      1073741824) :* var 2)) (step ∷ d ∷ d' ∷ []) tt

  abbrev pub centre_off : ℕ
  centre_off = 1125899906842624 * (U * U * 3)

  pub end-part : (G k : ℕ) (B1 B2 A1 A2 d : Int) → Within (50331648 * U) (off G k B1 B2 A1 A2 d)
      → Within (2 * centre_off) (twice f ⊠ at_b G k B1 B2 A1 A2 d ⊟ (twice f ⊠ at_a G k B1 B2 A1 A2 d ⊞ step ⊠ (of_nat 2147483648 ⊠ d)))
  end-part G k B1 B2 A1 A2 d h =
      let w = times-off G k B1 B2 A1 A2 d h in
      let e = one_end G k B1 B2 A1 A2 d in
      let tb = twice-left f (at_b G k B1 B2 A1 A2 d) in
      let ta = twice-left f (at_a G k B1 B2 A1 A2 d) in
      let s = half-steps d in
      record { upper = omega (arith, w.upper, e, tb, ta, s); lower = omega (arith, w.lower, e, tb, ta, s) }

  pub middle-part : (G k0 k1 : ℕ) (B1 B2 A1 A2 d d' : Int) → Within (50331648 * U) (off G k0 B1 B2 A1 A2 d) → Within (50331648 * U) (off G k1 B1 B2 A1 A2 d')
      → Within (2 * centre_off) (f ⊠ at_b G k1 B1 B2 A1 A2 d' ⊞ f ⊠ at_b G k0 B1 B2 A1 A2 d ⊟ (f ⊠ at_a G k1 B1 B2 A1 A2 d' ⊞ f ⊠ at_a G k0 B1 B2 A1 A2 d ⊞
      step ⊠ (of_nat 1073741824 ⊠ (d ⊞ d'))))
  middle-part G k0 k1 B1 B2 A1 A2 d d' h h' =
      let w = times-off G k0 B1 B2 A1 A2 d h in
      let w' = times-off G k1 B1 B2 A1 A2 d' h' in
      let e = one_end G k0 B1 B2 A1 A2 d in
      let e' = one_end G k1 B1 B2 A1 A2 d' in
      let s = both-steps d d' in
      record { upper = omega (arith, w.upper, w'.upper, e, e', s); lower = omega (arith, w.lower, w'.lower, e, e', s) }
