-- A moment that passes the check is one at which the bodies touch. Assumes nothing.
use mathlib.Core.List.{[], ◌∷◌}
use Prim.Native.Nat.{ℕ}
use native.Mathlib.Omega.{arith}
use Rattle.integers.specs.Signed.{Int, 0Int, of_nat, ◌⊞◌, ◌⊟◌, ◌⊠◌, neg, ◌≼◌, ◌≺◌, ◌≃◌}
use Rattle.integers.specs.Whole.{Within}
use Rattle.integers.specs.Polynomial.{var, ◌:+◌, ◌:-◌, ◌:*◌, negated}
use Rattle.integers.proofs.Signed.{⊠-cong, ⊠-cong-r, ⊠-nonneg, ⊠-square}
use Rattle.integers.proofs.Ring.{ring}
use Rattle.plane.specs.Plane.{Point, sum, difference, opposite, scaled, dot}
use Rattle.plane.specs.Outline.{divisor, gap}
use Rattle.plane.proofs.Weights.{⊠-mono}
use Rattle.whole_move.specs.Blend.{twice}
use Rattle.whole_move.specs.Piece.{Moment, whole}
use Rattle.whole_way.specs.Mover.{Mover, TurnAt}
use Rattle.whole_move.proofs.Lengths.{products, longer}
use Rattle.whole_move.proofs.Turns.{square-within, cancel}
use Rattle.whole_touch.specs.Touch.{AtMostApart, frame, outline_at, carried, TouchAt, place_by, Touches}
use Rattle.whole_touch.proofs.Placed.{off, off-x, off-y, there, off-short}

-- ---- lengths
same_length : (a b : Point) → a.x ≃ b.x → a.y ≃ b.y → dot a a ≃ dot b b
same_length a b h k = omega (arith, ⊠-cong a.x b.x a.x b.x h h, ⊠-cong a.y b.y a.y b.y k k)

longer-by : (k : Int) (d : Point) (r : Int) → dot d d ≼ r ⊠ r → dot (scaled k d) (scaled k d) ≼ k ⊠ r ⊠ (k ⊠ r)
longer-by k d r h = omega (
  arith,
  ⊠-mono (k ⊠ k) (dot d d) (r ⊠ r) (⊠-square k) h,
  ring (var 0 :* var 1 :* (var 0 :* var 1) :+ var 0 :* var 2 :* (var 0 :* var 2)) (var 0 :* var 0 :* (var 1 :* var 1 :+ var 2 :* var 2)) (k ∷ d.x ∷ d.y ∷
      []) tt,
  ring (var 0 :* var 1 :* (var 0 :* var 1)) (var 0 :* var 0 :* (var 1 :* var 1)) (k ∷ r ∷ []) tt,
)

as_long : (d : Point) (r : Int) → dot d d ≼ r ⊠ r → dot (opposite d) (opposite d) ≼ r ⊠ r
as_long d r h = omega (
  arith,
  ring (var 0 :* var 0 :+ var 1 :* var 1) (negated (var 0) :* negated (var 0) :+ negated (var 1) :* negated (var 1)) (d.x ∷
      d.y ∷ []) tt,
)

-- a point that is shown rounded
shown-short : (x shown : Point) (scale e D reach : ℕ) → Within e (x.x ⊟ of_nat scale ⊠ shown.x) → Within e (x.y ⊟ of_nat scale ⊠ shown.y)
    → twice (of_nat e ⊠ of_nat e) ≼ of_nat D ⊠ of_nat D → dot shown shown ≼ of_nat reach ⊠ of_nat reach
    → dot x x ≼ (of_nat scale ⊠ of_nat reach ⊞ of_nat D) ⊠ (of_nat scale ⊠ of_nat reach ⊞ of_nat D)
shown-short x shown scale e D reach hx hy rounding short =
    let k = of_nat scale in
    let big = scaled k shown in
    let rest = difference x big in
    let part : (z : Int) → Within e z → z ⊠ z ≼ of_nat e ⊠ of_nat e = λ z w. square-within z (of_nat e) (omega (arith, w.upper)) (omega (arith, w.lower)) in
    omega (
      arith,
      longer big rest (k ⊠ of_nat reach) (of_nat D) (⊠-nonneg k (of_nat reach) (omega arith) (omega arith)) (omega arith) (longer-by k shown (of_nat reach) short)
          (omega (arith, part rest.x hx, part rest.y hy, rounding)),
      same_length (sum big rest) x (omega arith) (omega arith),
    )

-- ---- two bodies, for a turn of each
-- one part of the gap
part : (F A B s t p q pa qb oa ob : Int) → F ⊠ p ≃ t ⊠ (s ⊠ pa ⊞ oa) → F ⊠ q ≃ s ⊠ (t ⊠ qb ⊞ ob)
    → F ⊠ (B ⊠ p ⊟ A ⊠ q) ≃ t ⊠ B ⊠ oa ⊞ s ⊠ A ⊠ neg ob ⊞ s ⊠ t ⊠ (B ⊠ pa ⊟ A ⊠ qb)
part F A B s t p q pa qb oa ob h l = omega (
  arith,
  ⊠-cong-r B (F ⊠ p) (t ⊠ (s ⊠ pa ⊞ oa)) h,
  ⊠-cong-r A (F ⊠ q) (s ⊠ (t ⊠ qb ⊞ ob)) l,
  ring (var 0 :* (var 2 :* var 3 :- var 1 :* var 4)) (var 2 :* (var 0 :* var 3) :- var 1 :* (var 0 :* var 4)) (F ∷ A ∷ B ∷ p ∷ q ∷ []) tt,
  ring (var 1 :* (var 3 :* (var 2 :* var 4 :+ var 6)) :- var 0 :* (var 2 :* (var 3 :* var 5 :+ var 7))) (var 3 :* var 1 :* var 6 :+ var 2 :* var 0 :*
      negated (var 7) :+ var 2 :* var 3 :* (var 1 :* var 4 :- var 0 :* var 5))
      (A ∷ B ∷ s ∷ t ∷ pa ∷ qb ∷ oa ∷ ob ∷ []) tt,
)

-- numbers only: g is the gap's length squared
add-up : (F A B H s t M E E' ρ g : Int) → 0Int ≺ F ⊠ F → 0Int ≼ A → 0Int ≼ B → 0Int ≼ H → 0Int ≼ s → 0Int ≼ t → 0Int ≼ M → 0Int ≼ E → 0Int ≼ E'
    → M ⊞ A ⊠ B ⊠ H ⊠ (E ⊞ E') ≼ A ⊠ B ⊠ H ⊠ (F ⊠ ρ)
    → F ⊠ F ⊠ g ≼ (t ⊠ B ⊠ (s ⊠ A ⊠ H ⊠ E) ⊞ s ⊠ A ⊠ (t ⊠ B ⊠ H ⊠ E') ⊞ s ⊠ t ⊠ M) ⊠ (t ⊠ B ⊠ (s ⊠ A ⊠ H ⊠ E) ⊞ s ⊠ A ⊠ (t ⊠ B ⊠ H ⊠ E') ⊞ s ⊠ t ⊠ M)
    → g ≼ A ⊠ B ⊠ (s ⊠ t ⊠ H ⊠ ρ) ⊠ (A ⊠ B ⊠ (s ⊠ t ⊠ H ⊠ ρ))
add-up F A B H s t M E E' ρ g FF h_a h_b h_h hs ht h_m h_e h_e' enough h =
    let st = ⊠-nonneg s t hs ht in
    let k = A ⊠ B ⊠ H in
    let r = t ⊠ B ⊠ (s ⊠ A ⊠ H ⊠ E) ⊞ s ⊠ A ⊠ (t ⊠ B ⊠ H ⊠ E') ⊞ s ⊠ t ⊠ M in
    let K = ⊠-nonneg (A ⊠ B) H (⊠-nonneg A B h_a h_b) h_h in
    let low = ⊠-nonneg (s ⊠ t) (M ⊞ k ⊠ (E ⊞ E')) st (omega (arith, h_m, ⊠-nonneg k (E ⊞ E') K (omega (arith, h_e, h_e')))) in
    let same = ring (var 0 :* var 1 :* (var 2 :+ var 3 :* var 4 :* var 5 :* (var 6 :+ var 7))) (var 1 :* var 4 :* (var 0 :* var 3 :* var 5 :* var 6) :+ var
    0 :* var 3 :* (var 1 :* var 4 :* var 5 :* var 7) :+ var 0 :* var 1 :* var 2)
    (s ∷ t ∷ M ∷ A ∷ B ∷ H ∷ E ∷ E' ∷ []) tt in
    let up : r ≼ s ⊠ t ⊠ (k ⊠ (F ⊠ ρ)) = omega (arith, same, ⊠-mono (s ⊠ t) (M ⊞ k ⊠ (E ⊞ E')) (k ⊠ (F ⊠ ρ)) st enough) in
    let R : 0Int ≼ r = omega (arith, same, low) in
    let T = A ⊠ B ⊠ (s ⊠ t ⊠ H ⊠ ρ) in
    cancel (F ⊠ F) g (T ⊠ T) FF (omega (
      arith,
      h,
      products r r (s ⊠ t ⊠ (k ⊠ (F ⊠ ρ))) (s ⊠ t ⊠ (k ⊠ (F ⊠ ρ))) R (omega (arith, R, up)) up up,
      ring (var 0 :* var 1 :* (var 2 :* var 3 :* var 4 :* (var 5 :* var 6)) :* (var 0 :* var 1 :* (var 2 :* var 3 :* var 4 :* (var 5 :* var 6))))
          (var 5 :* var 5 :* (var 2 :* var 3 :* (var 0 :* var 1 :* var 4 :* var 6) :* (var 2 :* var 3 :* (var 0 :* var 1 :* var 4 :* var 6)))) (s ∷ t ∷ A ∷
          B ∷ H ∷ F ∷ ρ ∷ []) tt,
    ))

module _ (m : Moment) (S distance : ℕ) (a b : Mover) (h : Touches m S distance a b) where
  abbrev A : Int
  A = divisor (frame a) h.point_a

  abbrev B : Int
  B = divisor (frame b) h.point_b

  abbrev H : Int
  H = whole m

  abbrev F : Int
  F = of_nat h.F

  abbrev pa : Point
  pa = place_by m h.F h.sa a h.point_a

  abbrev pb : Point
  pb = place_by m h.F h.sb b h.point_b

  abbrev x : Point
  x = difference (scaled B pa) (scaled A pb)

  abbrev M : Int
  M = of_nat h.scale ⊠ of_nat h.reach ⊞ of_nat h.D

  x-short : dot x x ≼ M ⊠ M
  x-short = shown-short x h.shown h.scale h.e h.D h.reach h.near-x h.near-y h.rounding h.reached

  MM : 0Int ≼ M
  MM = omega (arith, ⊠-nonneg (of_nat h.scale) (of_nat h.reach) (omega arith) (omega arith))

  close : (s : TurnAt m S a) (t : TurnAt m S b)
      → AtMostApart (of_nat s.under ⊠ of_nat t.under ⊠ whole m ⊠ of_nat distance) (outline_at m (of_nat t.under) (of_nat s.over) (of_nat s.under)
      a) (outline_at m (of_nat s.under) (of_nat t.over) (of_nat t.under) b)
      (carried m (of_nat t.under) (of_nat s.over) (of_nat s.under) a h.point_a) (carried m (of_nat s.under) (of_nat t.over) (of_nat t.under)
      b h.point_b)
  close s t =
      let s_u = of_nat s.under in
      let t_u = of_nat t.under in
      let s_o = of_nat s.over in
      let t_o = of_nat t.over in
      let oa = off m a h.point_a h.F h.sa t_u s_o s_u in
      let ob = off m b h.point_b h.F h.sb s_u t_o t_u in
      let ta = there m a h.point_a h.F h.sa t_u s_o s_u in
      let tb = there m b h.point_b h.F h.sb s_u t_o t_u in
      let g = difference (scaled B ta) (scaled A tb) in
      let d1 = scaled (t_u ⊠ B) oa in
      let d2 = scaled (s_u ⊠ A) (opposite ob) in
      let d3 = scaled (s_u ⊠ t_u) x in
      let e1 = s_u ⊠ A ⊠ H ⊠ of_nat h.EA in
      let e2 = t_u ⊠ B ⊠ H ⊠ of_nat h.EB in
      let E1 : 0Int ≼ e1 = ⊠-nonneg (s_u ⊠ A ⊠ H) (of_nat h.EA) (⊠-nonneg (s_u ⊠ A) H (⊠-nonneg s_u A (omega arith) (omega arith)) (omega arith)) (omega
      arith) in
      let E2 : 0Int ≼ e2 = ⊠-nonneg (t_u ⊠ B ⊠ H) (of_nat h.EB) (⊠-nonneg (t_u ⊠ B) H (⊠-nonneg t_u B (omega arith) (omega arith)) (omega arith)) (omega
      arith) in
      let r1 = ⊠-nonneg (t_u ⊠ B) e1 (⊠-nonneg t_u B (omega arith) (omega arith)) E1 in
      let r2 = ⊠-nonneg (s_u ⊠ A) e2 (⊠-nonneg s_u A (omega arith) (omega arith)) E2 in
      let r3 = ⊠-nonneg (s_u ⊠ t_u) M (⊠-nonneg s_u t_u (omega arith) (omega arith)) MM in
      let short1 = longer-by (t_u ⊠ B) oa e1 (off-short m a h.point_a h.F h.slack h.sa h.EA S t_u h.some h.wide s h.body_a) in
      let short2 = longer-by (s_u ⊠ A) (opposite ob) e2 (as_long ob e2 (off-short m b h.point_b h.F h.slack h.sb h.EB S s_u h.some h.wide
      t h.body_b)) in
      let short12 = longer d1 d2 (t_u ⊠ B ⊠ e1) (s_u ⊠ A ⊠ e2) r1 r2 short1 short2 in
      let short123 = longer (sum d1 d2) d3 (t_u ⊠ B ⊠ e1 ⊞ s_u ⊠ A ⊠ e2) (s_u ⊠ t_u ⊠ M) (omega (arith, r1, r2)) r3 short12 (longer-by (s_u ⊠ t_u) x M x-short) in
      let gx = part F A B s_u t_u ta.x tb.x pa.x pb.x oa.x ob.x (off-x m a h.point_a h.F h.sa t_u s_o s_u) (off-x m b h.point_b
      h.F h.sb s_u t_o t_u) in
      let gy = part F A B s_u t_u ta.y tb.y pa.y pb.y oa.y ob.y (off-y m a h.point_a h.F h.sa t_u s_o s_u) (off-y m b h.point_b
      h.F h.sb s_u t_o t_u) in
      add-up F A B H s_u t_u M (of_nat h.EA) (of_nat h.EB) (of_nat distance) (dot g g) (omega (arith, h.body_a.room)) (omega arith) (omega arith) (omega
      arith) (omega arith) (omega arith) MM (omega arith) (omega arith)
      h.enough
      (omega (
        arith,
        short123,
        same_length (scaled F g) (sum (sum d1 d2) d3) gx gy,
        ring (var 0 :* var 1 :* (var 0 :* var 1) :+ var 0 :* var 2 :* (var 0 :* var 2)) (var 0 :* var 0 :* (var 1 :* var 1 :+ var 2 :* var 2)) (F ∷ g.x ∷
            g.y ∷ []) tt,
      ))

-- the theorem
pub checked-touches : (m : Moment) (S distance : ℕ) (a b : Mover) → Touches m S distance a b → TouchAt m S distance a b
checked-touches m S distance a b h = record { point_a = h.point_a; point_b = h.point_b; touching = close m S distance a b h }
