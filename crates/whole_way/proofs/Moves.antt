-- A piece of the way of two bodies that is clear throughout: they are away from each other at each of its moments. Assumes nothing.
use mathlib.Core.Path.{◌≡◌, refl}
use mathlib.Core.List.{List, [], ◌∷◌}
use Prim.Native.Nat.{ℕ, ◌+◌, ◌-◌, ◌≤◌, ◌<◌}
use native.Mathlib.Omega.{arith}
use Rattle.integers.specs.Signed.{Int, 0Int, of_nat, ◌⊞◌, ◌⊟◌, ◌⊠◌, ◌≼◌, ◌≺◌, ◌≃◌}
use Rattle.integers.specs.Polynomial.{Expr, var, lit, ◌:+◌, ◌:-◌, ◌:*◌}
use Rattle.integers.proofs.Signed.{⊠-nonneg, ⊠-pos, ⊠-square, ⊠-cong, ⊠-cong-r}
use Rattle.integers.proofs.Ring.{ring}
use Rattle.plane.specs.Plane.{Point, scaled, dot}
use Rattle.plane.proofs.Weights.{⊠-mono}
use Rattle.whole_move.specs.Blend.{twice, line, bend}
use Rattle.whole_move.specs.Piece.{Controls, Body, turned_by, Moment, whole, bend_at, Turned, placed_corner, FartherThan, ClearThroughout}
use Rattle.whole_way.specs.Mover.{Mover, on, heading_at, TurnAt, corner_at, AwayAt, Piece, InPiece, on_piece}
use Rattle.whole_move.proofs.Blends.{u', w', two, line', bend'}
use Rattle.whole_move.proofs.Turns.{cancel}
use Rattle.whole_move.proofs.Shrink.{shrink}

-- ---- the window, in F² and in 1 / S
module _ (S F2 slack under2 long : Int) (SS : 0Int ≺ S) (FF : 0Int ≼ F2) (UU : 0Int ≼ under2) (wide : F2 ≼ slack ⊠ S) where
  pub window-long : under2 ⊠ (S ⊟ of_nat 1) ≼ S ⊠ long → under2 ⊠ (F2 ⊟ slack) ≼ F2 ⊠ long
  window-long h = cancel S (under2 ⊠ (F2 ⊟ slack)) (F2 ⊠ long) SS (omega (
    arith,
    ⊠-mono F2 (under2 ⊠ (S ⊟ of_nat 1)) (S ⊠ long) FF h,
    ⊠-mono under2 F2 (slack ⊠ S) UU wide,
    ring (var 0 :* (var 3 :* (var 1 :- var 2))) (var 1 :* (var 3 :* (var 0 :- lit (of_nat 1))) :+ var 3 :* var 1 :- var 3 :* (var 2 :* var 0)) (S ∷ F2 ∷
        slack ∷ under2 ∷ []) tt,
    ring (var 0 :* (var 1 :* var 2)) (var 1 :* (var 0 :* var 2)) (S ∷ F2 ∷ long ∷ []) tt,
  ))

  pub window-short : S ⊠ long ≼ under2 ⊠ (S ⊞ of_nat 1) → F2 ⊠ long ≼ under2 ⊠ (F2 ⊞ slack)
  window-short h = cancel S (F2 ⊠ long) (under2 ⊠ (F2 ⊞ slack)) SS (omega (
    arith,
    ⊠-mono F2 (S ⊠ long) (under2 ⊠ (S ⊞ of_nat 1)) FF h,
    ⊠-mono under2 F2 (slack ⊠ S) UU wide,
    ring (var 0 :* (var 3 :* (var 1 :+ var 2))) (var 1 :* (var 3 :* (var 0 :+ lit (of_nat 1))) :- var 3 :* var 1 :+ var 3 :* (var 2 :* var 0)) (S ∷ F2 ∷
        slack ∷ under2 ∷ []) tt,
    ring (var 0 :* (var 1 :* var 2)) (var 1 :* (var 0 :* var 2)) (S ∷ F2 ∷ long ∷ []) tt,
  ))

-- a number that is not negative, as a natural
abbrev pub natural : Int → ℕ
natural z = z.plus - z.minus

pub natural-is : (z : Int) → 0Int ≼ z → of_nat (natural z) ≃ z
natural-is z h = omega arith

module _ (p : Piece) (g m : Moment) (inside : InPiece p g m) where
  abbrev u : Int
  u = of_nat m.u

  abbrev w : Int
  w = of_nat m.w

  abbrev H : Int
  H = whole m

  abbrev G : Int
  G = whole g

  abbrev k : Int
  k = of_nat inside.times

  abbrev n : Int
  n = of_nat p.n

  abbrev a0 : Int
  a0 = of_nat p.a0

  abbrev a1 : Int
  a1 = of_nat p.a1

  abbrev b0 : Int
  b0 = of_nat p.b0

  abbrev b1 : Int
  b1 = of_nat p.b1

  HP : 0Int ≺ H
  HP = omega (arith, m.some)

  KP : 0Int ≺ k
  KP = omega (arith, inside.some)

  -- n of the piece's wholes are `times` of the way's
  wholes : n ⊠ H ≃ k ⊠ G
  wholes = omega (
    arith,
    inside.same-u,
    inside.same_w,
    ⊠-cong-r u n (a0 ⊞ a1) (omega (arith, p.first)),
    ⊠-cong-r w n (b0 ⊞ b1) (omega (arith, p.last)),
    ring (var 2 :* (u' :+ w')) (u' :* var 2 :+ w' :* var 2) (u ∷ w ∷ n ∷ []) tt,
    ring (u' :* (var 2 :+ var 3) :+ w' :* (var 4 :+ var 5)) (line' (var 2) (var 4) :+ line' (var 3) (var 5)) (u ∷ w ∷ a0 ∷ a1 ∷ b0 ∷ b1 ∷ []) tt,
    ring (var 0 :* (var 1 :+ var 2)) (var 0 :* var 1 :+ var 0 :* var 2) (k ∷ of_nat g.u ∷ of_nat g.w ∷ []) tt,
  )

  -- a part of the way, seen in the piece
  in-piece : (c d : Int) → line u w (line a0 a1 c d) (line b0 b1 c d) ≃ k ⊠ line (of_nat g.u) (of_nat g.w) c d
  in-piece c d = omega (
    arith,
    ⊠-cong (k ⊠ of_nat g.u) (line u w a0 b0) c c inside.same-u refl,
    ⊠-cong (k ⊠ of_nat g.w) (line u w a1 b1) d d inside.same_w refl,
    ring (u' :* (var 2 :* var 6 :+ var 3 :* var 7) :+ w' :* (var 4 :* var 6 :+ var 5 :* var 7)) (line' (var 2) (var 4) :* var 6 :+ line' (var 3) (var 5) :*
        var 7) (u ∷ w ∷ a0 ∷ a1 ∷ b0 ∷ b1 ∷ c ∷ d ∷ []) tt,
    ring (var 0 :* (var 1 :* var 3 :+ var 2 :* var 4)) (var 0 :* var 1 :* var 3 :+ var 0 :* var 2 :* var 4) (k ∷ of_nat g.u ∷ of_nat g.w ∷ c ∷ d ∷ []) tt,
  )

  -- the bend of a product of two lines
  product-bend : (s t x y : Int) → bend u w (twice s ⊠ x) (s ⊠ y ⊞ t ⊠ x) (twice t ⊠ y) ≃ twice (line u w s t) ⊠ line u w x y
  product-bend s t x y =
      ring (bend' (two (var 2) :* var 4) (var 2 :* var 5 :+ var 3 :* var 4) (two (var 3) :* var 5)) (two (line' (var 2) (var 3)) :* line' (var 4) (var 5))
      (u ∷ w ∷ s ∷ t ∷ x ∷ y ∷ []) tt

  part-bend : (s t c d : Int) → bend u w (twice s ⊠ line a0 a1 c d) (s ⊠ line b0 b1 c d ⊞ t ⊠ line a0 a1 c d) (twice t ⊠ line b0 b1 c d)
      ≃ twice (line u w s t) ⊠ (k ⊠ line (of_nat g.u) (of_nat g.w) c d)
  part-bend s t c d = omega (
    arith,
    product-bend s t (line a0 a1 c d) (line b0 b1 c d),
    ⊠-cong-r (twice (line u w s t)) (line u w (line a0 a1 c d) (line b0 b1 c d)) (k ⊠ line (of_nat g.u) (of_nat g.w) c d) (in-piece c d),
  )

  module _ (f : ℕ) (f_some : 0 < f) (F : ℕ) (F-is : of_nat F ≃ twice (n ⊠ of_nat f)) (s0 s1 : ℕ) (some0 : 0 < s0) (some1 : 0 < s1) (o : Mover) where
    abbrev σ : Int
    σ = line u w (of_nat s0) (of_nat s1)

    abbrev Λ : Point
    Λ = heading_at g o

    abbrev body : Body
    body = on_piece p f s0 s1 o

    abbrev P : Point
    P = bend_at m body.turn

    -- at least u + w
    σP : 0Int ≺ σ
    σP = omega (
      arith,
      HP,
      ⊠-nonneg u (of_nat s0 ⊟ of_nat 1) (omega arith) (omega arith),
      ⊠-nonneg w (of_nat s1 ⊟ of_nat 1) (omega arith) (omega arith),
      ring (u' :* (var 2 :- lit (of_nat 1)) :+ w' :* (var 3 :- lit (of_nat 1))) (line' (var 2) (var 3) :- (u' :+ w')) (u ∷ w ∷ of_nat s0 ∷ of_nat s1 ∷ []) tt,
    )

    P-x : P.x ≃ twice σ ⊠ (k ⊠ Λ.x)
    P-x = part-bend (of_nat s0) (of_nat s1) o.heading1.x o.heading2.x

    P-y : P.y ≃ twice σ ⊠ (k ⊠ Λ.y)
    P-y = part-bend (of_nat s0) (of_nat s1) o.heading1.y o.heading2.y

    P-length : dot P P ≃ twice σ ⊠ k ⊠ (twice σ ⊠ k) ⊠ dot Λ Λ
    P-length = omega (
      arith,
      ⊠-cong P.x (twice σ ⊠ (k ⊠ Λ.x)) P.x (twice σ ⊠ (k ⊠ Λ.x)) P-x P-x,
      ⊠-cong P.y (twice σ ⊠ (k ⊠ Λ.y)) P.y (twice σ ⊠ (k ⊠ Λ.y)) P-y P-y,
      ring (var 0 :* (var 1 :* var 2) :* (var 0 :* (var 1 :* var 2)) :+ var 0 :* (var 1 :* var 3) :* (var 0 :* (var 1 :* var 3))) (var 0 :* var 1 :* (var 0
          :* var 1) :* (var 2 :* var 2 :+ var 3 :* var 3))
          (twice σ ∷ k ∷ Λ.x ∷ Λ.y ∷ []) tt,
    )

    module _ (S slack : ℕ) (SS : 0 < S) (wide : of_nat F ⊠ of_nat F ≼ of_nat slack ⊠ of_nat S) (z : TurnAt g S o) where
      abbrev over : Int
      over = of_nat z.over

      abbrev under : Int
      under = of_nat z.under

      -- the same turn, over the piece
      abbrev over' : Int
      over' = over ⊠ (of_nat F ⊠ (H ⊠ H))

      abbrev under' : Int
      under' = twice σ ⊠ k ⊠ under

      over-is : of_nat (natural over') ≃ over'
      over-is = natural-is over' (⊠-nonneg over (of_nat F ⊠ (H ⊠ H)) (omega arith) (⊠-nonneg (of_nat F) (H ⊠ H) (omega arith) (⊠-square H)))

      under_p : 0Int ≺ under'
      under_p = ⊠-pos (twice σ ⊠ k) under (⊠-pos (twice σ) k (omega (arith, σP)) KP) (omega (arith, z.some))

      under-is : of_nat (natural under') ≃ under'
      under-is = natural-is under' (omega (arith, under_p))

      abbrev h : Int
      h = H ⊠ H ⊠ (H ⊠ H)

      abbrev factor : Int
      factor = twice σ ⊠ k ⊠ (twice σ ⊠ k) ⊠ h

      over-side : of_nat (natural over') ⊠ of_nat (natural over') ⊠ dot P P ≃ factor ⊠ (of_nat F ⊠ of_nat F ⊠ (over ⊠ over ⊠ dot Λ Λ))
      over-side = omega (
        arith,
        ⊠-cong (of_nat (natural over') ⊠ of_nat (natural over')) (over' ⊠ over') (dot P P) (twice σ ⊠ k ⊠ (twice σ ⊠ k) ⊠ dot Λ Λ)
            (⊠-cong (of_nat (natural over')) over' (of_nat (natural over')) over' over-is over-is) P-length,
        ring (var 0 :* (var 1 :* (var 2 :* var 2)) :* (var 0 :* (var 1 :* (var 2 :* var 2))) :* (var 3 :* var 3 :* var 4))
            (var 3 :* var 3 :* (var 2 :* var 2 :* (var 2 :* var 2)) :* (var 1 :* var 1 :* (var 0 :* var 0 :* var 4))) (over ∷ of_nat F ∷ H ∷ (twice σ ⊠ k) ∷
            dot Λ Λ ∷ []) tt,
      )

      under-side : (e : Int) → of_nat (natural under') ⊠ of_nat (natural under') ⊠ h ⊠ e ≃ factor ⊠ (under ⊠ under ⊠ e)
      under-side e = omega (
        arith,
        ⊠-cong (of_nat (natural under') ⊠ of_nat (natural under') ⊠ h) (under' ⊠ under' ⊠ h) e e
            (⊠-cong (of_nat (natural under') ⊠ of_nat (natural under')) (under' ⊠ under') h h (⊠-cong (of_nat (natural under')) under' (of_nat (natural
            under')) under' under-is under-is) refl) refl,
        ring (var 0 :* var 1 :* (var 0 :* var 1) :* var 2 :* var 3) (var 0 :* var 0 :* var 2 :* (var 1 :* var 1 :* var 3)) ((twice σ ⊠ k) ∷ under ∷ h ∷ e ∷
            []) tt,
      )

      factor-nonneg : 0Int ≼ factor
      factor-nonneg = ⊠-nonneg (twice σ ⊠ k ⊠ (twice σ ⊠ k)) h (⊠-square (twice σ ⊠ k)) (⊠-square (H ⊠ H))

      abbrev FF : Int
      FF = of_nat F ⊠ of_nat F

      abbrev long : Int
      long = over ⊠ over ⊠ dot Λ Λ

      turned : Turned m F slack body.turn
      turned = record {
        over = natural over';
        under = natural under';
        some = omega (arith, under-is, under_p);
        long-enough = omega (
          arith,
          over-side,
          under-side (FF ⊟ of_nat slack),
          ⊠-mono factor (under ⊠ under ⊠ (FF ⊟ of_nat slack)) (FF ⊠ long) factor-nonneg
              (window-long (of_nat S) FF (of_nat slack) (under ⊠ under) long (omega arith) (⊠-square (of_nat F)) (⊠-square under) wide z.long-enough),
        );
        short-enough = omega (
          arith,
          over-side,
          under-side (FF ⊞ of_nat slack),
          ⊠-mono factor (FF ⊠ long) (under ⊠ under ⊠ (FF ⊞ of_nat slack)) factor-nonneg
              (window-short (of_nat S) FF (of_nat slack) (under ⊠ under) long (omega arith) (⊠-square (of_nat F)) (⊠-square under) wide z.short-enough),
        );
      }

      -- where a corner is, both ways
      abbrev μ : Int
      μ = twice (twice σ) ⊠ of_nat f ⊠ H ⊠ (k ⊠ k)

      grown : (other : Int) → 0Int ≺ other → 0Int ≺ twice other ⊠ k ⊠ μ
      grown other h =
          let up : 0Int ≺ twice (twice σ) ⊠ of_nat f ⊠ H = ⊠-pos (twice (twice σ) ⊠ of_nat f) H (⊠-pos (twice (twice σ)) (of_nat f) (omega (arith, σP)) (omega
          arith)) HP in
          ⊠-pos (twice other ⊠ k) μ (⊠-pos (twice other) k (omega arith) KP) (⊠-pos (twice (twice σ) ⊠ of_nat f ⊠ H) (k ⊠ k) up (⊠-pos k k KP KP))

      place-part : (B I C L : Int) → B ≃ twice (line u w (of_nat f) (of_nat f)) ⊠ (k ⊠ C) → I ≃ twice σ ⊠ k ⊠ L
          → of_nat (natural under') ⊠ B ⊞ of_nat (natural over') ⊠ I ≃ μ ⊠ (under ⊠ C ⊞ over ⊠ G ⊠ L)
      place-part B I C L h_b h_i = omega (
        arith,
        ⊠-cong (of_nat (natural under')) under' B (twice (line u w (of_nat f) (of_nat f)) ⊠ (k ⊠ C)) under-is h_b,
        ⊠-cong (of_nat (natural over')) over' I (twice σ ⊠ k ⊠ L) over-is h_i,
        ⊠-cong-r (over ⊠ (twice σ ⊠ k ⊠ L) ⊠ (H ⊠ H)) (of_nat F) (twice (n ⊠ of_nat f)) F-is,
        ⊠-cong-r (over ⊠ (twice σ ⊠ k ⊠ L) ⊠ twice (of_nat f) ⊠ H) (n ⊠ H) (k ⊠ G) wholes,
        ring (var 0 :* (var 1 :* (var 2 :* var 2)) :* var 3) (var 0 :* var 3 :* (var 2 :* var 2) :* var 1) (over ∷ of_nat F ∷ H ∷ (twice σ ⊠ k ⊠ L) ∷ []) tt,
        ring (var 0 :* var 3 :* (var 2 :* var 2) :* two (var 1 :* var 4)) (var 0 :* var 3 :* two (var 4) :* var 2 :* (var 1 :* var 2)) (over ∷ n ∷ H ∷
            (twice σ ⊠ k ⊠ L) ∷ of_nat f ∷ []) tt,
        ring (two (var 2) :* var 3 :* var 4 :* (two (u' :* var 5 :+ w' :* var 5) :* (var 3 :* var 6)) :+ var 7 :* (two (var 2) :* var 3 :* var 8) :* two
            (var 5) :* (u' :+ w') :* (var 3 :* var 9))
            (two (two (var 2)) :* var 5 :* (u' :+ w') :* (var 3 :* var 3) :* (var 4 :* var 6 :+ var 7 :* var 9 :* var 8)) (u ∷ w ∷ σ ∷ k ∷ under ∷ of_nat f
            ∷ C ∷ over ∷ L ∷ G ∷ []) tt,
      )

      module _ (i : ℕ) where
        abbrev v : Point
        v = o.corner i

        corner-x : (placed_corner m (of_nat (natural over')) (of_nat (natural under')) body i).x ≃ μ ⊠ (corner_at g over under o i).x
        corner-x = place-part (bend_at m body.centre).x (P.x ⊠ v.x ⊟ P.y ⊠ v.y) (on g o.centre1 o.centre2).x (Λ.x ⊠ v.x ⊟ Λ.y ⊠ v.y)
            (part-bend (of_nat f) (of_nat f) o.centre1.x o.centre2.x) (omega (
              arith,
              ⊠-cong P.x (twice σ ⊠ (k ⊠ Λ.x)) v.x v.x P-x refl,
              ⊠-cong P.y (twice σ ⊠ (k ⊠ Λ.y)) v.y v.y P-y refl,
              ring (var 0 :* (var 1 :* var 2) :* var 4 :- var 0 :* (var 1 :* var 3) :* var 5) (var 0 :* var 1 :* (var 2 :* var 4 :- var 3 :* var 5)) (twice
                  σ ∷ k ∷ Λ.x ∷ Λ.y ∷ v.x ∷ v.y ∷ []) tt,
            ))

        corner-y : (placed_corner m (of_nat (natural over')) (of_nat (natural under')) body i).y ≃ μ ⊠ (corner_at g over under o i).y
        corner-y = place-part (bend_at m body.centre).y (P.y ⊠ v.x ⊞ P.x ⊠ v.y) (on g o.centre1 o.centre2).y (Λ.y ⊠ v.x ⊞ Λ.x ⊠ v.y)
            (part-bend (of_nat f) (of_nat f) o.centre1.y o.centre2.y) (omega (
              arith,
              ⊠-cong P.x (twice σ ⊠ (k ⊠ Λ.x)) v.y v.y P-x refl,
              ⊠-cong P.y (twice σ ⊠ (k ⊠ Λ.y)) v.x v.x P-y refl,
              ring (var 0 :* (var 1 :* var 3) :* var 4 :+ var 0 :* (var 1 :* var 2) :* var 5) (var 0 :* var 1 :* (var 3 :* var 4 :+ var 2 :* var 5)) (twice
                  σ ∷ k ∷ Λ.x ∷ Λ.y ∷ v.x ∷ v.y ∷ []) tt,
            ))

-- one body's corner, times the other's divisor
crossed : (N U s k U1 μ T X : Int) → N ≃ twice s ⊠ k ⊠ U → X ≃ μ ⊠ T → U1 ≃ twice s ⊠ k ⊠ μ → N ⊠ X ≃ U1 ⊠ (U ⊠ T)
crossed N U s k U1 μ T X h_n h_x h_u = omega (
  arith,
  ⊠-cong N (twice s ⊠ k ⊠ U) X (μ ⊠ T) h_n h_x,
  ⊠-cong U1 (twice s ⊠ k ⊠ μ) (U ⊠ T) (U ⊠ T) h_u refl,
  ring (two (var 0) :* var 1 :* var 2 :* (var 3 :* var 4)) (two (var 0) :* var 1 :* var 3 :* (var 2 :* var 4)) (s ∷ k ∷ U ∷ μ ∷ T ∷ []) tt,
)

-- the clearance, as both scales have it
cleared : (N1 N2 U1 U2 s1 s2 k f H G n F r c : Int) → 0Int ≼ N1 → 0Int ≼ N2 → N1 ≃ twice s1 ⊠ k ⊠ U1 → N2 ≃ twice s2 ⊠ k ⊠ U2 → n ⊠ H ≃ k ⊠ G → F ≃ twice
    (n ⊠ f) → F ⊠ r ≼ c
    → twice s2 ⊠ k ⊠ (twice (twice s1) ⊠ f ⊠ H ⊠ (k ⊠ k)) ⊠ (U1 ⊠ U2 ⊠ G ⊠ r) ≼ N1 ⊠ N2 ⊠ (H ⊠ H) ⊠ c
cleared N1 N2 U1 U2 s1 s2 k f H G n F r c h1 h2 e1 e2 wholes F-is enough =
    let M = twice s1 ⊠ k ⊠ U1 ⊠ (twice s2 ⊠ k ⊠ U2) in
    omega (
      arith,
      ⊠-mono (N1 ⊠ N2 ⊠ (H ⊠ H)) (F ⊠ r) c (⊠-nonneg (N1 ⊠ N2) (H ⊠ H) (⊠-nonneg N1 N2 h1 h2) (⊠-square H)) enough,
      ⊠-cong (N1 ⊠ N2 ⊠ (H ⊠ H)) (M ⊠ (H ⊠ H)) (F ⊠ r) (twice (n ⊠ f) ⊠ r)
          (⊠-cong (N1 ⊠ N2) M (H ⊠ H) (H ⊠ H) (⊠-cong N1 (twice s1 ⊠ k ⊠ U1) N2 (twice s2 ⊠ k ⊠ U2) e1 e2) refl) (⊠-cong F (twice (n ⊠ f)) r r F-is refl),
      ⊠-cong-r (M ⊠ H ⊠ twice f ⊠ r) (n ⊠ H) (k ⊠ G) wholes,
      ring (var 0 :* (var 1 :* var 1) :* (two (var 2 :* var 3) :* var 4)) (var 0 :* var 1 :* two (var 3) :* var 4 :* (var 2 :* var 1)) (M ∷ H ∷ n ∷ f ∷ r ∷
          []) tt,
      ring (two (var 0) :* var 2 :* var 3 :* (two (var 1) :* var 2 :* var 4) :* var 5 :* two (var 6) :* var 7 :* (var 2 :* var 8))
          (two (var 1) :* var 2 :* (two (two (var 0)) :* var 6 :* var 5 :* (var 2 :* var 2)) :* (var 3 :* var 4 :* var 8 :* var 7)) (s1 ∷ s2 ∷ k ∷ U1 ∷ U2
          ∷ H ∷ f ∷ r ∷ G ∷ []) tt,
    )

-- the theorem: at every moment of a piece that is clear throughout, in F-ths with F = 2 n f, the movers are away from each other
pub piece-is-away : (p : Piece) (g m : Moment) → InPiece p g m → (f F S slack clearance room : ℕ) → 0 < f → of_nat F ≃ twice (of_nat p.n ⊠ of_nat f) → 0 < S
    → of_nat F ⊠ of_nat F ≼ of_nat slack ⊠ of_nat S → of_nat F ⊠ of_nat clearance ≼ of_nat room
    → (sa ta sb tb : ℕ) → 0 < sa → 0 < ta → 0 < sb → 0 < tb → (a b : Mover)
    → ClearThroughout F slack room (on_piece p f sa ta a) (on_piece p f sb tb b) → AwayAt g S clearance a b
unfolding turned
piece-is-away p g m inside f F S slack clearance room f_some F-is SS wide enough sa ta sb tb ha ia hb ib a b clear s t =
    let kk = k p g m inside in
    let HH = H p g m inside in
    let s_a = σ p g m inside f f_some F F-is sa ta ha ia a in
    let s_b = σ p g m inside f f_some F F-is sb tb hb ib b in
    let μA = μ p g m inside f f_some F F-is sa ta ha ia a S slack SS wide s in
    let μB = μ p g m inside f f_some F F-is sb tb hb ib b S slack SS wide t in
    let z_a = turned p g m inside f f_some F F-is sa ta ha ia a S slack SS wide s in
    let z_b = turned p g m inside f f_some F F-is sb tb hb ib b S slack SS wide t in
    let e_a = under-is p g m inside f f_some F F-is sa ta ha ia a S slack SS wide s in
    let e_b = under-is p g m inside f f_some F F-is sb tb hb ib b S slack SS wide t in
    let UA = of_nat s.under in
    let UB = of_nat t.under in
    let M = twice s_b ⊠ kk ⊠ μA in
    let M' : M ≃ twice s_a ⊠ kk ⊠ μB = ring (two (var 1) :* var 2 :* (two (two (var 0)) :* var 3 :* var 4 :* (var 2 :* var 2))) (two (var 0) :* var 2 :*
    (two (two (var 1)) :* var 3 :* var 4 :* (var 2 :* var 2)))
    (s_a ∷ s_b ∷ kk ∷ of_nat f ∷ HH ∷ []) tt in
    let NA = of_nat z_a.under in
    let NB = of_nat z_b.under in
    shrink a.count b.count (λ i. scaled UB (corner_at g (of_nat s.over) UA a i)) (λ j. scaled UA (corner_at g (of_nat t.over) UB b j))
    (λ i. scaled NB (placed_corner m (of_nat z_a.over) NA (on_piece p f sa ta a) i)) (λ j. scaled NA (placed_corner m (of_nat z_b.over) NB (on_piece p f sb
    tb b) j))
    M (UA ⊠ UB ⊠ whole g ⊠ of_nat clearance) (NA ⊠ NB ⊠ (HH ⊠ HH) ⊠ of_nat room)
    (grown p g m inside f f_some F F-is sa ta ha ia a S slack SS wide s s_b (σP p g m inside f f_some F F-is sb tb hb ib b))
    (⊠-nonneg (UA ⊠ UB ⊠ whole g) (of_nat clearance) (⊠-nonneg (UA ⊠ UB) (whole g) (⊠-nonneg UA UB (omega arith) (omega arith)) (omega arith)) (omega arith))
    (cleared NA NB UA UB s_a s_b kk (of_nat f) HH (whole g) (of_nat p.n) (of_nat F) (of_nat clearance) (of_nat room) (omega arith) (omega arith) e_a e_b (wholes
    p g m inside) F-is enough)
    (λ i. crossed NB UB s_b kk M μA (corner_at g (of_nat s.over) UA a i).x (placed_corner m (of_nat z_a.over) NA (on_piece p f sa ta a) i).x e_b (corner-x
    p g m inside f f_some F F-is sa ta ha ia a S slack SS wide s i) refl)
    (λ i. crossed NB UB s_b kk M μA (corner_at g (of_nat s.over) UA a i).y (placed_corner m (of_nat z_a.over) NA (on_piece p f sa ta a) i).y e_b (corner-y
    p g m inside f f_some F F-is sa ta ha ia a S slack SS wide s i) refl)
    (λ j. crossed NA UA s_a kk M μB (corner_at g (of_nat t.over) UB b j).x (placed_corner m (of_nat z_b.over) NB (on_piece p f sb tb b) j).x e_a (corner-x
    p g m inside f f_some F F-is sb tb hb ib b S slack SS wide t j) M')
    (λ j. crossed NA UA s_a kk M μB (corner_at g (of_nat t.over) UB b j).y (placed_corner m (of_nat z_b.over) NB (on_piece p f sb tb b) j).y e_a (corner-y
    p g m inside f f_some F F-is sb tb hb ib b S slack SS wide t j) M')
    (clear m z_a z_b)
