-- Two bodies made `finer` times as large, with everything seen from the first one's centre: where those touch, the two touch. Assumes nothing.
use mathlib.Core.List.{[], ◌∷◌}
use Prim.Native.Nat.{ℕ, zero, suc, ◌*◌, ◌<◌}
use native.Mathlib.Omega.{arith}
use Rattle.integers.specs.Signed.{Int, 0Int, of_nat, ◌⊞◌, ◌⊟◌, ◌⊠◌, ◌≼◌, ◌≃◌}
use Rattle.integers.specs.Polynomial.{var, lit, ◌:+◌, ◌:-◌, ◌:*◌}
use Rattle.integers.proofs.Signed.{⊠-cong, ⊠-cong-r, ⊠-pos}
use Rattle.integers.proofs.Ring.{ring}
use Rattle.plane.specs.Plane.{Point, difference, scaled, dot, total, sum_below}
use Rattle.plane.specs.Outline.{PointOf, divisor, dividend, gap}
use Rattle.whole_move.specs.Piece.{Moment, whole}
use Rattle.whole_way.specs.Mover.{Mover, on, heading_at, TurnAt, corner_at}
use Rattle.whole_move.proofs.Turns.{cancel}
use Rattle.whole_touch.specs.Touch.{AtMostApart, frame, outline_at, carried, TouchAt}

-- ---- weighted sums of numbers that are k times as large, and moved by c
moved_sum : (weight : ℕ → ℕ) (z z' : ℕ → Int) (k c : Int) → ((i : ℕ) → k ⊠ z i ≃ z' i ⊞ c) → (n : ℕ)
    → k ⊠ sum_below n (λ i. of_nat (weight i) ⊠ z i) ≃ sum_below n (λ i. of_nat (weight i) ⊠ z' i) ⊞ of_nat (total n weight) ⊠ c
moved_sum weight z z' k c each zero = omega (
  arith,
  ring (var 0 :* lit 0Int) (lit 0Int :* var 1) (k ∷ c ∷ []) tt,
  ring (lit 0Int :* var 0) (lit 0Int) (c ∷
      []) tt,
)
moved_sum weight z z' k c each (suc n) = omega (
  arith,
  moved_sum weight z z' k c each n,
  ⊠-cong-r (of_nat (weight n)) (k ⊠ z n) (z' n ⊞ c) (each n),
  ring (var 0 :* (var 1 :+ var 2 :* var 3)) (var 0 :* var 1 :+ var 2 :* (var 0 :* var 3)) (k ∷ sum_below n (λ i. of_nat (weight i) ⊠ z i) ∷ of_nat (weight n)
      ∷ z n ∷ []) tt,
  ring (var 0 :* (var 1 :+ var 2) :+ var 3 :* var 2) (var 0 :* var 1 :+ (var 3 :+ var 0) :* var 2) (of_nat (weight n) ∷ z' n ∷ c ∷ of_nat (total n weight) ∷
      []) tt,
)

-- ---- the two
abbrev origin : Point
origin = record { x = 0Int; y = 0Int }

module _ (finer : ℕ) (a b : Mover) where
  abbrev f : Int
  f = of_nat finer

  abbrev pub resized_a : Mover
  resized_a = record {
    count = a.count;
    corner = λ i. scaled f (a.corner i);
    centre1 = origin;
    centre2 = origin;
    heading1 = a.heading1;
    heading2 = a.heading2;
  }

  abbrev pub resized_b : Mover
  resized_b = record {
    count = b.count;
    corner = λ i. scaled f (b.corner i);
    centre1 = scaled f (difference b.centre1 a.centre1);
    centre2 = scaled f (difference b.centre2 a.centre2);
    heading1 = b.heading1;
    heading2 = b.heading2;
  }

  module _ (m : Moment) where
    abbrev u : Int
    u = of_nat m.u

    abbrev w : Int
    w = of_nat m.w

    abbrev H : Int
    H = whole m

    -- one corner of a, one of b: each is that of the resized body, moved by the first one's centre
    module _ (s_u t_u over : Int) (L : Point) (v : Point) where
      first-x : (c d : Int) → f ⊠ (t_u ⊠ (s_u ⊠ (u ⊠ c ⊞ w ⊠ d) ⊞ over ⊠ H ⊠ (L.x ⊠ v.x ⊟ L.y ⊠ v.y)))
          ≃ t_u ⊠ (s_u ⊠ (u ⊠ 0Int ⊞ w ⊠ 0Int) ⊞ over ⊠ H ⊠ (L.x ⊠ (f ⊠ v.x) ⊟ L.y ⊠ (f ⊠ v.y))) ⊞ s_u ⊠ t_u ⊠ (f ⊠ (u ⊠ c ⊞ w ⊠ d))
      first-x c d = ring (var 0 :* (var 1 :* (var 2 :* (var 3 :* var 4 :+ var 5 :* var 6) :+ var 7 :* var 8 :* (var 9 :* var 10 :- var 11 :* var 12))))
          (var 1 :* (var 2 :* (var 3 :* lit 0Int :+ var 5 :* lit 0Int) :+ var 7 :* var 8 :* (var 9 :* (var 0 :* var 10) :- var 11 :* (var 0 :* var 12))) :+
          var 2 :* var 1 :* (var 0 :* (var 3 :* var 4 :+ var 5 :* var 6)))
          (f ∷ t_u ∷ s_u ∷ u ∷ c ∷ w ∷ d ∷ over ∷ H ∷ L.x ∷ v.x ∷ L.y ∷ v.y ∷ []) tt

      first-y : (c d : Int) → f ⊠ (t_u ⊠ (s_u ⊠ (u ⊠ c ⊞ w ⊠ d) ⊞ over ⊠ H ⊠ (L.y ⊠ v.x ⊞ L.x ⊠ v.y)))
          ≃ t_u ⊠ (s_u ⊠ (u ⊠ 0Int ⊞ w ⊠ 0Int) ⊞ over ⊠ H ⊠ (L.y ⊠ (f ⊠ v.x) ⊞ L.x ⊠ (f ⊠ v.y))) ⊞ s_u ⊠ t_u ⊠ (f ⊠ (u ⊠ c ⊞ w ⊠ d))
      first-y c d = ring (var 0 :* (var 1 :* (var 2 :* (var 3 :* var 4 :+ var 5 :* var 6) :+ var 7 :* var 8 :* (var 11 :* var 10 :+ var 9 :* var 12))))
          (var 1 :* (var 2 :* (var 3 :* lit 0Int :+ var 5 :* lit 0Int) :+ var 7 :* var 8 :* (var 11 :* (var 0 :* var 10) :+ var 9 :* (var 0 :* var 12))) :+
          var 2 :* var 1 :* (var 0 :* (var 3 :* var 4 :+ var 5 :* var 6)))
          (f ∷ t_u ∷ s_u ∷ u ∷ c ∷ w ∷ d ∷ over ∷ H ∷ L.x ∷ v.x ∷ L.y ∷ v.y ∷ []) tt

      other-x : (c d c' d' : Int) → f ⊠ (s_u ⊠ (t_u ⊠ (u ⊠ c' ⊞ w ⊠ d') ⊞ over ⊠ H ⊠ (L.x ⊠ v.x ⊟ L.y ⊠ v.y)))
          ≃ s_u ⊠ (t_u ⊠ (u ⊠ (f ⊠ (c' ⊟ c)) ⊞ w ⊠ (f ⊠ (d' ⊟ d))) ⊞ over ⊠ H ⊠ (L.x ⊠ (f ⊠ v.x) ⊟ L.y ⊠ (f ⊠ v.y))) ⊞ s_u ⊠ t_u ⊠ (f ⊠ (u ⊠ c ⊞ w ⊠ d))
      other-x c d c' d' = ring (var 0 :* (var 2 :* (var 1 :* (var 3 :* var 13 :+ var 5 :* var 14) :+ var 7 :* var 8 :* (var 9 :* var 10 :- var 11 :* var
          12))))
          (var 2 :* (var 1 :* (var 3 :* (var 0 :* (var 13 :- var 4)) :+ var 5 :* (var 0 :* (var 14 :- var 6))) :+ var 7 :* var 8 :* (var 9 :* (var 0 :* var
          10) :- var 11 :* (var 0 :* var 12))) :+ var 2 :* var 1 :* (var 0 :* (var 3 :* var 4 :+ var 5 :* var 6)))
          (f ∷ t_u ∷ s_u ∷ u ∷ c ∷ w ∷ d ∷ over ∷ H ∷ L.x ∷ v.x ∷ L.y ∷ v.y ∷ c' ∷ d' ∷ []) tt

      other-y : (c d c' d' : Int) → f ⊠ (s_u ⊠ (t_u ⊠ (u ⊠ c' ⊞ w ⊠ d') ⊞ over ⊠ H ⊠ (L.y ⊠ v.x ⊞ L.x ⊠ v.y)))
          ≃ s_u ⊠ (t_u ⊠ (u ⊠ (f ⊠ (c' ⊟ c)) ⊞ w ⊠ (f ⊠ (d' ⊟ d))) ⊞ over ⊠ H ⊠ (L.y ⊠ (f ⊠ v.x) ⊞ L.x ⊠ (f ⊠ v.y))) ⊞ s_u ⊠ t_u ⊠ (f ⊠ (u ⊠ c ⊞ w ⊠ d))
      other-y c d c' d' = ring (var 0 :* (var 2 :* (var 1 :* (var 3 :* var 13 :+ var 5 :* var 14) :+ var 7 :* var 8 :* (var 11 :* var 10 :+ var 9 :* var
          12))))
          (var 2 :* (var 1 :* (var 3 :* (var 0 :* (var 13 :- var 4)) :+ var 5 :* (var 0 :* (var 14 :- var 6))) :+ var 7 :* var 8 :* (var 11 :* (var 0 :*
          var 10) :+ var 9 :* (var 0 :* var 12))) :+ var 2 :* var 1 :* (var 0 :* (var 3 :* var 4 :+ var 5 :* var 6)))
          (f ∷ t_u ∷ s_u ∷ u ∷ c ∷ w ∷ d ∷ over ∷ H ∷ L.x ∷ v.x ∷ L.y ∷ v.y ∷ c' ∷ d' ∷ []) tt

    -- one part of the gap
    gap-part : (A B c p q p' q' : Int) → f ⊠ p ≃ p' ⊞ A ⊠ c → f ⊠ q ≃ q' ⊞ B ⊠ c → f ⊠ (B ⊠ p ⊟ A ⊠ q) ≃ B ⊠ p' ⊟ A ⊠ q'
    gap-part A B c p q p' q' hp hq = omega (
      arith,
      ⊠-cong-r B (f ⊠ p) (p' ⊞ A ⊠ c) hp,
      ⊠-cong-r A (f ⊠ q) (q' ⊞ B ⊠ c) hq,
      ring (var 0 :* (var 1 :* var 2 :- var 3 :* var 4)) (var 1 :* (var 0 :* var 2) :- var 3 :* (var 0 :* var 4)) (f ∷ B ∷ p ∷ A ∷ q ∷ []) tt,
      ring (var 0 :* (var 1 :+ var 2 :* var 3) :- var 2 :* (var 4 :+ var 0 :* var 3)) (var 0 :* var 1 :- var 2 :* var 4) (B ∷ p' ∷ A ∷ c ∷ q' ∷ []) tt,
    )

    shrunk : (g g' : Point) (t t' : Int) → 0 < finer → f ⊠ g.x ≃ g'.x → f ⊠ g.y ≃ g'.y → t' ≃ f ⊠ t → dot g' g' ≼ t' ⊠ t' → dot g g ≼ t ⊠ t
    shrunk g g' t t' some hx hy ht h = cancel (f ⊠ f) (dot g g) (t ⊠ t) (⊠-pos f f (omega arith) (omega arith)) (omega (
      arith,
      h,
      ⊠-cong (f ⊠ g.x) g'.x (f ⊠ g.x) g'.x hx hx,
      ⊠-cong (f ⊠ g.y) g'.y (f ⊠ g.y) g'.y hy hy,
      ⊠-cong t' (f ⊠ t) t' (f ⊠ t) ht ht,
      ring (var 0 :* var 0 :* (var 1 :* var 1 :+ var 2 :* var 2)) (var 0 :* var 1 :* (var 0 :* var 1) :+ var 0 :* var 2 :* (var 0 :* var 2)) (f ∷ g.x ∷
          g.y ∷ []) tt,
      ring (var 0 :* var 1 :* (var 0 :* var 1)) (var 0 :* var 0 :* (var 1 :* var 1)) (f ∷ t ∷ []) tt,
    ))

    as-product : (keep : ℕ) → of_nat (finer * keep) ≃ f ⊠ of_nat keep
    unfolding ◌⊠◌
    as-product keep = omega arith

    length_part : (A B s t d d' : Int) → d' ≃ f ⊠ d → A ⊠ B ⊠ (s ⊠ t ⊠ H ⊠ d') ≃ f ⊠ (A ⊠ B ⊠ (s ⊠ t ⊠ H ⊠ d))
    length_part A B s t d d' h = omega (
      arith,
      ⊠-cong-r (A ⊠ B) (s ⊠ t ⊠ H ⊠ d') (s ⊠ t ⊠ H ⊠ (f ⊠ d)) (⊠-cong-r (s ⊠ t ⊠ H) d' (f ⊠ d) h),
      ring (var 0 :* var 1 :* (var 2 :* var 3 :* var 4 :* (var 5 :* var 6))) (var 5 :* (var 0 :* var 1 :* (var 2 :* var 3 :* var 4 :* var 6))) (A ∷ B ∷ s ∷
          t ∷ H ∷ f ∷ d ∷ []) tt,
    )

    module _ (S keep : ℕ) (some : 0 < finer) (h : TouchAt m S (finer * keep) resized_a resized_b) where
      abbrev p : PointOf (frame a)
      p = record { weight = h.point_a.weight; some = h.point_a.some }

      abbrev q : PointOf (frame b)
      q = record { weight = h.point_b.weight; some = h.point_b.some }

      close : (s : TurnAt m S a) (t : TurnAt m S b)
          → let s_u = of_nat s.under in
          let t_u = of_nat t.under in
          let s_o = of_nat s.over in
          let t_o = of_nat t.over in
          AtMostApart (s_u ⊠ t_u ⊠ whole m ⊠ of_nat keep) (outline_at m t_u s_o s_u a) (outline_at m s_u t_o t_u b) (carried m t_u s_o s_u a p) (carried m s_u t_o t_u b q)
      close s t =
          let s_u = of_nat s.under in
          let t_u = of_nat t.under in
          let s_o = of_nat s.over in
          let t_o = of_nat t.over in
          let s' : TurnAt m S resized_a = record {
            over = s.over;
            under = s.under;
            some = s.some;
            long-enough = s.long-enough;
            short-enough =
                s.short-enough;
          } in
          let t' : TurnAt m S resized_b = record {
            over = t.over;
            under = t.under;
            some = t.some;
            long-enough = t.long-enough;
            short-enough =
                t.short-enough;
          } in
          let A = divisor (frame a) p in
          let B = divisor (frame b) q in
          let LA = heading_at m a in
          let LB = heading_at m b in
          let oa = outline_at m t_u s_o s_u a in
          let ob = outline_at m s_u t_o t_u b in
          let ra = outline_at m t_u s_o s_u resized_a in
          let rb = outline_at m s_u t_o t_u resized_b in
          let pa = carried m t_u s_o s_u a p in
          let qb = carried m s_u t_o t_u b q in
          let pa' = carried m t_u s_o s_u resized_a h.point_a in
          let qb' = carried m s_u t_o t_u resized_b h.point_b in
          let cx = s_u ⊠ t_u ⊠ (f ⊠ (u ⊠ a.centre1.x ⊞ w ⊠ a.centre2.x)) in
          let cy = s_u ⊠ t_u ⊠ (f ⊠ (u ⊠ a.centre1.y ⊞ w ⊠ a.centre2.y)) in
          let ax = moved_sum p.weight (λ i. (oa.corner i).x) (λ i. (ra.corner i).x) f cx (λ i. first-x s_u t_u s_o LA (a.corner i) a.centre1.x
          a.centre2.x) a.count in
          let ay = moved_sum p.weight (λ i. (oa.corner i).y) (λ i. (ra.corner i).y) f cy (λ i. first-y s_u t_u s_o LA (a.corner i) a.centre1.y
          a.centre2.y) a.count in
          let bx = moved_sum q.weight (λ i. (ob.corner i).x) (λ i. (rb.corner i).x) f cx (λ i. other-x s_u t_u t_o LB (b.corner i) a.centre1.x
          a.centre2.x b.centre1.x b.centre2.x) b.count in
          let by = moved_sum q.weight (λ i. (ob.corner i).y) (λ i. (rb.corner i).y) f cy (λ i. other-y s_u t_u t_o LB (b.corner i) a.centre1.y
          a.centre2.y b.centre1.y b.centre2.y) b.count in
          shrunk (gap oa ob pa qb) (gap ra rb pa' qb') (A ⊠ B ⊠ (s_u ⊠ t_u ⊠ H ⊠ of_nat keep)) (A ⊠ B ⊠ (s_u ⊠ t_u ⊠ H ⊠ of_nat (finer * keep))) some
          (gap-part A B cx (dividend oa pa).x (dividend ob qb).x (dividend ra pa').x (dividend rb qb').x ax bx)
          (gap-part A B cy (dividend oa pa).y (dividend ob qb).y (dividend ra pa').y (dividend rb qb').y ay by)
          (length_part A B s_u t_u (of_nat keep) (of_nat (finer * keep)) (as-product keep))
          (h.touching s' t')

      pub resized-touch : TouchAt m S keep a b
      resized-touch = record { point_a = p; point_b = q; touching = close }
