-- Touching at a moment and being away at it exclude each other. Assumes nothing.
use mathlib.Core.List.{[], ◌∷◌}
use Prim.Native.Nat.{ℕ}
use native.Mathlib.Omega.{arith}
use Rattle.integers.specs.Signed.{0Int, of_nat, ◌⊠◌, ◌≼◌, ◌≺◌}
use Rattle.integers.specs.Polynomial.{var, ◌:+◌, ◌:*◌}
use Rattle.integers.proofs.Signed.{⊠-pos-back, ⊠-square}
use Rattle.integers.proofs.Ring.{ring}
use Rattle.plane.specs.Plane.{dot}
use Rattle.plane.specs.Fraction.{Fraction, ◌≤ᶠ◌}
use Rattle.plane.specs.Outline.{PointOf}
use Rattle.whole_move.specs.Piece.{Moment, whole}
use Rattle.whole_way.specs.Mover.{Mover, heading_at, TurnAt, AwayAt, at, AwayBetween}
use Rattle.whole_touch.specs.Touch.{frame, carried, TouchAt, Steady, Touches}
use Rattle.whole_touch.proofs.Touching.{checked-touches}
use Rattle.whole_touch.proofs.Turns.{some_turn}

-- wherever there is a turn of each
pub exclude-by-turns : (m : Moment) (S distance : ℕ) (a b : Mover) → TurnAt m S a → TurnAt m S b → TouchAt m S distance a b → AwayAt m S distance a b → ⊥
exclude-by-turns m S distance a b s t touch away =
    let s_u = of_nat s.under in
    let t_u = of_nat t.under in
    omega (arith, touch.touching s t, away s t (carried m t_u (of_nat s.over) s_u a touch.point_a) (carried m s_u (of_nat t.over) t_u b touch.point_b))

-- so wherever neither heading is 0. Where one is there is no turn, and both hold of nothing.
pub exclude : (m : Moment) (S distance : ℕ) (a b : Mover) → 0Int ≺ dot (heading_at m a) (heading_at m a) → 0Int ≺ dot (heading_at m b) (heading_at m b)
    → TouchAt m S distance a b → AwayAt m S distance a b → ⊥
exclude m S distance a b h l = exclude-by-turns m S distance a b (some_turn m S a h) (some_turn m S b l)

-- a turn of length near F has a heading that is not 0
pub headed : (m : Moment) (F slack s : ℕ) (o : Mover) (p : PointOf (frame o)) (E : ℕ) → Steady m F slack s o p E → 0Int ≺ dot (heading_at m o) (heading_at m o)
headed m F slack s o p E h =
    let L = heading_at m o in
    let k = of_nat s in
    ⊠-pos-back (k ⊠ k) (dot L L) (⊠-square k) (omega (
      arith,
      h.room,
      h.long,
      ring (var 0 :* var 1 :* (var 0 :* var 1) :+ var 0 :* var 2 :* (var 0 :* var 2)) (var 0 :* var 0 :* (var 1 :* var 1 :+ var 2 :* var 2)) (k ∷ L.x ∷
          L.y ∷ []) tt,
    ))

pub checked-not-away : (m : Moment) (S distance : ℕ) (a b : Mover) → Touches m S distance a b → AwayAt m S distance a b → ⊥
checked-not-away m S distance a b h = exclude m S distance a b (headed m h.F h.slack h.sa a h.point_a h.EA h.body_a) (headed m h.F
    h.slack h.sb b h.point_b h.EB h.body_b) (checked-touches m S distance a b h)

-- so the two verdicts: what is away from one fraction to another does not touch between them
pub verdicts-exclude : (g : Moment) (S distance : ℕ) (a b : Mover) (from to : Fraction) → from ≤ᶠ at g → at g ≤ᶠ to
    → 0Int ≺ dot (heading_at g a) (heading_at g a) → 0Int ≺ dot (heading_at g b) (heading_at g b) → TouchAt g S distance a b → AwayBetween S distance a b from
    to → ⊥
verdicts-exclude g S distance a b from to after before h l touch away = exclude g S distance a b h l touch (away g after before)
