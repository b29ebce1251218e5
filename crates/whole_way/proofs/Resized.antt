-- Away at another size is away. Assumes nothing.
use mathlib.Core.List.{[], ◌∷◌}
use Prim.Native.Nat.{ℕ, ◌*◌, ◌<◌}
use native.Mathlib.Omega.{arith}
use Rattle.integers.specs.Signed.{Int, 0Int, of_nat, ◌⊞◌, ◌⊟◌, ◌⊠◌, ◌≼◌, ◌≃◌}
use Rattle.integers.specs.Polynomial.{var, ◌:+◌, ◌:-◌, ◌:*◌}
use Rattle.integers.proofs.Signed.{⊠-nonneg, ⊠-cong-r}
use Rattle.integers.proofs.Ring.{ring}
use Rattle.plane.specs.Plane.{Point, scaled}
use Rattle.plane.specs.Fraction.{Fraction}
use Rattle.whole_move.specs.Piece.{Moment, whole}
use Rattle.whole_move.proofs.Shrink.{shrink}
use Rattle.whole_way.specs.Mover.{Mover, heading_at, TurnAt, corner_at, AwayAt, AwayBetween, resized}

abbrev pub turn-resized : (g : Moment) (S c : ℕ) (o : Mover) → TurnAt g S o → TurnAt g S (resized c o)
turn-resized g S c o z = record { over = z.over; under = z.under; some = z.some; long-enough = z.long-enough; short-enough = z.short-enough }

module _ (g : Moment) (c : ℕ) (k over under : Int) (o : Mover) (i : ℕ) where
  abbrev L : Point
  L = heading_at g o

  abbrev v : Point
  v = o.corner i

  pub corner-resized-x : (scaled k (corner_at g over under (resized c o) i)).x ≃ of_nat c ⊠ (scaled k (corner_at g over under o i)).x
  corner-resized-x =
      ring (var 0 :* (var 1 :* (var 2 :* (var 4 :* var 5) :+ var 3 :* (var 4 :* var 6)) :+ var 7 :* (var 8 :* (var 4 :* var 10) :- var 9 :* (var 4 :* var
      11))))
      (var 4 :* (var 0 :* (var 1 :* (var 2 :* var 5 :+ var 3 :* var 6) :+ var 7 :* (var 8 :* var 10 :- var 9 :* var 11))))
      (k ∷ under ∷ of_nat g.u ∷ of_nat g.w ∷ of_nat c ∷ o.centre1.x ∷ o.centre2.x ∷ (over ⊠ whole g) ∷ L.x ∷ L.y ∷ v.x ∷ v.y ∷ []) tt

  pub corner-resized-y : (scaled k (corner_at g over under (resized c o) i)).y ≃ of_nat c ⊠ (scaled k (corner_at g over under o i)).y
  corner-resized-y =
      ring (var 0 :* (var 1 :* (var 2 :* (var 4 :* var 5) :+ var 3 :* (var 4 :* var 6)) :+ var 7 :* (var 9 :* (var 4 :* var 10) :+ var 8 :* (var 4 :* var
      11))))
      (var 4 :* (var 0 :* (var 1 :* (var 2 :* var 5 :+ var 3 :* var 6) :+ var 7 :* (var 9 :* var 10 :+ var 8 :* var 11))))
      (k ∷ under ∷ of_nat g.u ∷ of_nat g.w ∷ of_nat c ∷ o.centre1.y ∷ o.centre2.y ∷ (over ⊠ whole g) ∷ L.x ∷ L.y ∷ v.x ∷ v.y ∷ []) tt

product : (c d : ℕ) → of_nat (c * d) ≃ of_nat c ⊠ of_nat d
unfolding ◌⊠◌
product c d = omega arith

pub away-resized : (g : Moment) (S clearance c : ℕ) (a b : Mover) → 0 < c → AwayAt g S (c * clearance) (resized c a) (resized c b) → AwayAt g S clearance a b
away-resized g S clearance c a b some away s t =
    let s_u = of_nat s.under in
    let t_u = of_nat t.under in
    let s_o = of_nat s.over in
    let t_o = of_nat t.over in
    let k = s_u ⊠ t_u ⊠ whole g in
    shrink a.count b.count (λ i. scaled t_u (corner_at g s_o s_u a i)) (λ j. scaled s_u (corner_at g t_o t_u b j))
    (λ i. scaled t_u (corner_at g s_o s_u (resized c a) i)) (λ j. scaled s_u (corner_at g t_o t_u (resized c b) j))
    (of_nat c) (k ⊠ of_nat clearance) (k ⊠ of_nat (c * clearance)) (omega arith)
    (⊠-nonneg k (of_nat clearance) (⊠-nonneg (s_u ⊠ t_u) (whole g) (⊠-nonneg s_u t_u (omega arith) (omega arith)) (omega arith)) (omega arith))
    (omega (
      arith,
      ⊠-cong-r k (of_nat (c * clearance)) (of_nat c ⊠ of_nat clearance) (product c clearance),
      ring (var 0 :* (var 1 :* var 2)) (var 1 :* (var 0 :* var 2)) (of_nat c ∷ k ∷ of_nat clearance ∷ []) tt,
    ))
    (corner-resized-x g c t_u s_o s_u a) (corner-resized-y g c t_u s_o s_u a) (corner-resized-x g c s_u t_o t_u b) (corner-resized-y g c s_u t_o t_u b)
    (away (turn-resized g S c a s) (turn-resized g S c b t))

pub between-resized : (S clearance c : ℕ) (a b : Mover) (from to : Fraction) → 0 < c
    → AwayBetween S (c * clearance) (resized c a) (resized c b) from to → AwayBetween S clearance a b from to
between-resized S clearance c a b from to some away g after before = away-resized g S clearance c a b some (away g after before)
