-- A point of a body, given by weights, where a turn in the window places it: it is off what the check's turn places by little. Assumes nothing.
use mathlib.Core.List.{[], ◌∷◌}
use Prim.Native.Nat.{ℕ, zero, suc, ◌+◌, ◌<◌}
use native.Mathlib.Omega.{arith}
use Rattle.integers.specs.Signed.{Int, 0Int, of_nat, ◌⊞◌, ◌⊟◌, ◌⊠◌, ◌≼◌, ◌≃◌}
use Rattle.integers.specs.Polynomial.{var, lit, ◌:+◌, ◌:-◌, ◌:*◌}
use Rattle.integers.proofs.Signed.{⊠-cong-r, ⊠-nonneg, ⊠-pos, ⊠-square}
use Rattle.integers.proofs.Ring.{ring}
use Rattle.plane.specs.Plane.{Point, scaled, dot, total, sum_below}
use Rattle.plane.specs.Outline.{PointOf, divisor, dividend}
use Rattle.plane.proofs.Weights.{⊠-mono}
use Rattle.whole_move.specs.Piece.{turned_by, Moment, whole}
use Rattle.whole_way.specs.Mover.{Mover, on, heading_at, TurnAt}
use Rattle.whole_move.proofs.Lengths.{dot-square}
use Rattle.whole_move.proofs.Turns.{cancel, moved-at-most}
use Rattle.whole_way.proofs.Moves.{window-long, window-short}
use Rattle.whole_touch.specs.Touch.{frame, outline_at, carried, lengthened, place_by, Steady}

-- ---- one part of a weighted sum of corners, each turned by (p, q), lengthened by h, moved by c and made k times as large
module _ (weight : ℕ → ℕ) (k c h p q : Int) (v : ℕ → Point) where
  abbrev X : ℕ → Int
  X n = sum_below n (λ i. of_nat (weight i) ⊠ (v i).x)

  abbrev Y : ℕ → Int
  Y n = sum_below n (λ i. of_nat (weight i) ⊠ (v i).y)

  abbrev W : ℕ → Int
  W n = of_nat (total n weight)

  pub weighted-minus : (n : ℕ) → sum_below n (λ i. of_nat (weight i) ⊠ (k ⊠ (c ⊞ h ⊠ (p ⊠ (v i).x ⊟ q ⊠ (v i).y)))) ≃ k ⊠ (W n ⊠ c ⊞ h ⊠ (p ⊠ X n ⊟ q ⊠ Y n))
  weighted-minus zero = ring (lit 0Int) (var 0 :* (lit 0Int :* var 1 :+ var 2 :* (var 3 :* lit 0Int :- var 4 :* lit 0Int))) (k ∷ c ∷ h ∷ p ∷ q ∷ []) tt
  weighted-minus (suc n) = omega (
    arith,
    weighted-minus n,
    ring (var 0 :* (var 5 :* var 1 :+ var 2 :* (var 3 :* var 6 :- var 4 :* var 7)) :+ var 8 :* (var 0 :* (var 1 :+ var 2 :* (var 3 :* var 9 :- var 4 :* var
        10))))
        (var 0 :* ((var 5 :+ var 8) :* var 1 :+ var 2 :* (var 3 :* (var 6 :+ var 8 :* var 9) :- var 4 :* (var 7 :+ var 8 :* var 10))))
        (k ∷ c ∷ h ∷ p ∷ q ∷ W n ∷ X n ∷ Y n ∷ of_nat (weight n) ∷ (v n).x ∷ (v n).y ∷ []) tt,
  )

  pub weighted-plus : (n : ℕ) → sum_below n (λ i. of_nat (weight i) ⊠ (k ⊠ (c ⊞ h ⊠ (p ⊠ (v i).x ⊞ q ⊠ (v i).y)))) ≃ k ⊠ (W n ⊠ c ⊞ h ⊠ (p ⊠ X n ⊞ q ⊠ Y n))
  weighted-plus zero = ring (lit 0Int) (var 0 :* (lit 0Int :* var 1 :+ var 2 :* (var 3 :* lit 0Int :+ var 4 :* lit 0Int))) (k ∷ c ∷ h ∷ p ∷ q ∷ []) tt
  weighted-plus (suc n) = omega (
    arith,
    weighted-plus n,
    ring (var 0 :* (var 5 :* var 1 :+ var 2 :* (var 3 :* var 6 :+ var 4 :* var 7)) :+ var 8 :* (var 0 :* (var 1 :+ var 2 :* (var 3 :* var 9 :+ var 4 :* var
        10))))
        (var 0 :* ((var 5 :+ var 8) :* var 1 :+ var 2 :* (var 3 :* (var 6 :+ var 8 :* var 9) :+ var 4 :* (var 7 :+ var 8 :* var 10))))
        (k ∷ c ∷ h ∷ p ∷ q ∷ W n ∷ X n ∷ Y n ∷ of_nat (weight n) ∷ (v n).x ∷ (v n).y ∷ []) tt,
  )

-- ---- one body
module _ (m : Moment) (o : Mover) (p : PointOf (frame o)) where
  abbrev H : Int
  H = whole m

  abbrev L : Point
  L = heading_at m o

  abbrev C : Point
  C = on m o.centre1 o.centre2

  abbrev Q : Point
  Q = dividend (frame o) p

  abbrev A : Int
  A = divisor (frame o) p

  module _ (F s : ℕ) (k over under : Int) where
    abbrev stretch : Int
    stretch = of_nat F ⊠ over ⊟ of_nat s ⊠ under

    -- how far the turn's point is off, in F-ths, times under (u + w) and the divisor
    abbrev pub off : Point
    off = scaled (stretch ⊠ H) (turned_by L Q)

    abbrev pub there : Point
    there = dividend (outline_at m k over under o) (carried m k over under o p)

    pub off-x : of_nat F ⊠ there.x ≃ k ⊠ (under ⊠ (place_by m F s o p).x ⊞ off.x)
    off-x = omega (
      arith,
      ⊠-cong-r (of_nat F) there.x (k ⊠ (A ⊠ (under ⊠ C.x) ⊞ over ⊠ H ⊠ (L.x ⊠ Q.x ⊟ L.y ⊠ Q.y))) (weighted-minus p.weight k (under ⊠ C.x)
          (over ⊠ H) L.x L.y o.corner o.count),
      ring (var 0 :* (var 1 :* (var 2 :* (var 3 :* var 4) :+ var 5 :* var 6 :* (var 7 :* var 9 :- var 8 :* var 10))))
          (var 1 :* (var 3 :* (var 0 :* var 2 :* var 4 :+ var 6 :* (var 11 :* var 7 :* var 9 :- var 11 :* var 8 :* var 10)) :+ (var 0 :* var 5 :- var 11 :*
          var 3) :* var 6 :* (var 7 :* var 9 :- var 8 :* var 10)))
          (of_nat F ∷ k ∷ A ∷ under ∷ C.x ∷ over ∷ H ∷ L.x ∷ L.y ∷ Q.x ∷ Q.y ∷ of_nat s ∷ []) tt,
    )

    pub off-y : of_nat F ⊠ there.y ≃ k ⊠ (under ⊠ (place_by m F s o p).y ⊞ off.y)
    off-y = omega (
      arith,
      ⊠-cong-r (of_nat F) there.y (k ⊠ (A ⊠ (under ⊠ C.y) ⊞ over ⊠ H ⊠ (L.y ⊠ Q.x ⊞ L.x ⊠ Q.y))) (weighted-plus p.weight k (under ⊠ C.y) (over ⊠
          H) L.y L.x o.corner o.count),
      ring (var 0 :* (var 1 :* (var 2 :* (var 3 :* var 4) :+ var 5 :* var 6 :* (var 8 :* var 9 :+ var 7 :* var 10))))
          (var 1 :* (var 3 :* (var 0 :* var 2 :* var 4 :+ var 6 :* (var 11 :* var 8 :* var 9 :+ var 11 :* var 7 :* var 10)) :+ (var 0 :* var 5 :- var 11 :*
          var 3) :* var 6 :* (var 8 :* var 9 :+ var 7 :* var 10)))
          (of_nat F ∷ k ∷ A ∷ under ∷ C.y ∷ over ∷ H ∷ L.x ∷ L.y ∷ Q.x ∷ Q.y ∷ of_nat s ∷ []) tt,
    )

  -- for a turn in the window that is at most E, in F-ths
  module _ (F slack s E S : ℕ) (k : Int) (SS : 0 < S) (wide : of_nat F ⊠ of_nat F ≼ of_nat slack ⊠ of_nat S) (z : TurnAt m S o) (h : Steady m F slack s o p E)
    where
      abbrev over : Int
      over = of_nat z.over

      abbrev under : Int
      under = of_nat z.under

      abbrev F2 : Int
      F2 = of_nat F ⊠ of_nat F

      abbrev σ : Int
      σ = of_nat s

      abbrev P : Point
      P = lengthened m s o

      abbrev c : Int
      c = stretch F s k over under

      abbrev long : Int
      long = over ⊠ over ⊠ dot L L

      over-side : of_nat F ⊠ over ⊠ (of_nat F ⊠ over) ⊠ dot P P ≃ σ ⊠ σ ⊠ (F2 ⊠ long)
      over-side = ring (var 0 :* var 1 :* (var 0 :* var 1) :* (var 2 :* var 3 :* (var 2 :* var 3) :+ var 2 :* var 4 :* (var 2 :* var 4))) (var 2 :* var 2 :*
          (var 0 :* var 0 :* (var 1 :* var 1 :* (var 3 :* var 3 :+ var 4 :* var 4))))
          (of_nat F ∷ over ∷ σ ∷ L.x ∷ L.y ∷ []) tt

      under-side : (e : Int) → σ ⊠ under ⊠ (σ ⊠ under) ⊠ of_nat 1 ⊠ e ≃ σ ⊠ σ ⊠ (under ⊠ under ⊠ e)
      under-side e = ring (var 0 :* var 1 :* (var 0 :* var 1) :* lit (of_nat 1) :* var 2) (var 0 :* var 0 :* (var 1 :* var 1 :* var 2)) (σ ∷ under ∷ e ∷ []) tt

      once : (e : Int) → of_nat 1 ⊠ e ≃ e
      once e = ring (lit (of_nat 1) :* var 0) (var 0) (e ∷ []) tt

      -- the window's condition, for the weighted point: all of it times the divisor
      enlarged : of_nat 64 ⊠ (A ⊠ of_nat h.R ⊠ (A ⊠ of_nat h.R) ⊠ ((of_nat h.y ⊞ of_nat slack) ⊠ (of_nat h.y ⊞ of_nat slack))) ≼ of_nat 225 ⊠ ((F2 ⊟
          of_nat h.y) ⊠ (A ⊠ of_nat E ⊠ (A ⊠ of_nat E)))
      enlarged = omega (
        arith,
        ⊠-mono (A ⊠ A) (of_nat 64 ⊠ (of_nat h.R ⊠ of_nat h.R ⊠ ((of_nat h.y ⊞ of_nat slack) ⊠ (of_nat h.y ⊞ of_nat slack)))) (of_nat 225 ⊠ ((F2 ⊟ of_nat
            h.y) ⊠ (of_nat E ⊠ of_nat E))) (⊠-square A) h.window,
        ring (lit (of_nat 64) :* (var 0 :* var 1 :* (var 0 :* var 1) :* (var 2 :* var 2))) (var 0 :* var 0 :* (lit (of_nat 64) :* (var 1 :* var 1 :* (var 2 :*
            var 2)))) (A ∷ of_nat h.R ∷ (of_nat h.y ⊞ of_nat slack) ∷ []) tt,
        ring (lit (of_nat 225) :* (var 2 :* (var 0 :* var 1 :* (var 0 :* var 1)))) (var 0 :* var 0 :* (lit (of_nat 225) :* (var 2 :* (var 1 :* var 1)))) (A ∷
            of_nat E ∷ (F2 ⊟ of_nat h.y) ∷ []) tt,
      )

      moved : c ⊠ c ⊠ (dot P P ⊠ dot Q Q) ≼ σ ⊠ under ⊠ (σ ⊠ under) ⊠ of_nat 1 ⊠ (A ⊠ of_nat E ⊠ (A ⊠ of_nat E))
      moved = moved-at-most (of_nat F ⊠ over) (σ ⊠ under) (dot P P) (of_nat 1) F2 (of_nat h.y) (of_nat slack)
          (⊠-nonneg (of_nat F) over (omega arith) (omega arith)) (⊠-pos σ under (omega (arith, h.some)) (omega (arith, z.some))) (omega arith)
          (omega (arith, once (F2 ⊟ of_nat h.y), h.long)) (omega (arith, once (F2 ⊞ of_nat h.y), h.short))
          (omega (
            arith,
            over-side,
            under-side (F2 ⊟ of_nat slack),
            ⊠-mono (σ ⊠ σ) (under ⊠ under ⊠ (F2 ⊟ of_nat slack)) (F2 ⊠ long) (⊠-square σ) (window-long (of_nat S) F2 (of_nat slack) (under ⊠ under) long (omega
                arith) (⊠-square (of_nat F)) (⊠-square under) wide z.long-enough),
          ))
          (omega (
            arith,
            over-side,
            under-side (F2 ⊞ of_nat slack),
            ⊠-mono (σ ⊠ σ) (F2 ⊠ long) (under ⊠ under ⊠ (F2 ⊞ of_nat slack)) (⊠-square σ) (window-short (of_nat S) F2 (of_nat slack) (under ⊠ under) long (omega
                arith) (⊠-square (of_nat F)) (⊠-square under) wide z.short-enough),
          ))
          (omega (arith, h.room)) h.tame (dot Q Q) (A ⊠ of_nat h.R) (A ⊠ of_nat E) (dot-square Q Q) h.inside enlarged

      pub off-short : dot (off F s k over under) (off F s k over under) ≼ under ⊠ A ⊠ H ⊠ of_nat E ⊠ (under ⊠ A ⊠ H ⊠ of_nat E)
      off-short = cancel (σ ⊠ σ) (dot (off F s k over under) (off F s k over under)) (under ⊠ A ⊠ H ⊠ of_nat E ⊠ (under ⊠ A ⊠ H ⊠ of_nat E)) (⊠-pos σ σ (omega
          (arith, h.some)) (omega (arith, h.some))) (omega (
            arith,
            ⊠-mono (H ⊠ H) (c ⊠ c ⊠ (dot P P ⊠ dot Q Q)) (σ ⊠ under ⊠ (σ ⊠ under) ⊠ of_nat 1 ⊠ (A ⊠ of_nat E ⊠ (A ⊠ of_nat E))) (⊠-square H) moved,
            ring (var 0 :* var 0 :* (var 1 :* var 2 :* (var 3 :* var 5 :- var 4 :* var 6) :* (var 1 :* var 2 :* (var 3 :* var 5 :- var 4 :* var 6)) :+ var 1 :*
                var 2 :* (var 4 :* var 5 :+ var 3 :* var 6) :* (var 1 :* var 2 :* (var 4 :* var 5 :+ var 3 :* var 6))))
                (var 2 :* var 2 :* (var 1 :* var 1 :* ((var 0 :* var 3 :* (var 0 :* var 3) :+ var 0 :* var 4 :* (var 0 :* var 4)) :* (var 5 :* var 5 :+ var 6 :*
                var 6)))) (σ ∷ c ∷ H ∷ L.x ∷ L.y ∷ Q.x ∷ Q.y ∷ []) tt,
            ring (var 0 :* var 0 :* (var 1 :* var 2 :* var 3 :* var 4 :* (var 1 :* var 2 :* var 3 :* var 4))) (var 3 :* var 3 :* (var 0 :* var 1 :* (var 0 :* var
                1) :* lit (of_nat 1) :* (var 2 :* var 4 :* (var 2 :* var 4)))) (σ ∷ under ∷ A ∷ H ∷ of_nat E ∷ []) tt,
          ))
