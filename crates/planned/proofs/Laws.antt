-- What is said of a planned move: it is not empty, its answers exclude each other, and what is known at 2^24-ths of the way is known of the fractions between
-- them. Assumes nothing.
use mathlib.Core.Path.{◌≡◌, refl}
use mathlib.Core.List.{List, [], ◌∷◌}
use Prim.Native.Nat.{ℕ, ◌+◌, ◌-◌, ◌≤◌, ◌<◌}
use native.Mathlib.Omega.{arith}
use lib.Ieee.{Float, binary32}
use Rattle.integers.specs.Signed.{Int, 0Int, of_nat, ◌⊞◌, ◌⊟◌, ◌⊠◌, ◌≼◌, ◌≺◌, ◌≃◌}
use Rattle.integers.specs.Polynomial.{var, ◌:+◌, ◌:-◌, ◌:*◌}
use Rattle.integers.proofs.Signed.{⊠-cong, ⊠-comm}
use Rattle.integers.proofs.Ring.{ring}
use Rattle.plane.specs.Plane.{dot}
use Rattle.plane.specs.Fraction.{Fraction, ◌≤ᶠ◌, ◌<ᶠ◌}
use Rattle.plane.proofs.Weights.{⊠-mono}
use Rattle.whole_move.specs.Piece.{Moment, whole}
use Rattle.whole_move.proofs.Turns.{cancel}
use Rattle.whole_way.specs.Mover.{Mover, heading_at, TurnAt, share, at, AwayBetween}
use Rattle.whole_touch.proofs.Turns.{some_turn}
use Rattle.whole_touch.proofs.Opposite.{exclude}
use Rattle.grid.specs.Grid.{unit}
use Rattle.grid.proofs.Shifts.{unit-pos}
use Rattle.planned.specs.Planned.{worth_of, fraction_of, moment_at, body_of, body_a, body_b, keep, end, Away, Touching, Clear, Touch}

-- ---- fractions
at-most-trans : (a b c : Fraction) → 0Int ≼ a.bottom → 0Int ≺ b.bottom → 0Int ≼ c.bottom → a ≤ᶠ b → b ≤ᶠ c → a ≤ᶠ c
at-most-trans a b c ha hb hc l m = cancel b.bottom (c.bottom ⊠ a.top) (a.bottom ⊠ c.top) hb (omega (
  arith,
  ⊠-mono c.bottom (b.bottom ⊠ a.top) (a.bottom ⊠ b.top) hc l,
  ⊠-mono a.bottom (c.bottom ⊠ b.top) (b.bottom ⊠ c.top) ha m,
  ring (var 0 :* (var 1 :* var 2)) (var 1 :* (var 0 :* var 2)) (b.bottom ∷ c.bottom ∷ a.top ∷ []) tt,
  ring (var 0 :* (var 1 :* var 2)) (var 1 :* (var 0 :* var 2)) (b.bottom ∷ a.bottom ∷ c.top ∷ []) tt,
  ring (var 0 :* (var 1 :* var 2)) (var 1 :* (var 0 :* var 2)) (c.bottom ∷ a.bottom ∷ b.top ∷ []) tt,
))

-- what is away is so on a part of it
pub narrower : (S clearance : ℕ) (a b : Mover) (first last from to : Fraction) → 0Int ≼ first.bottom → 0Int ≺ from.bottom → 0Int ≺ to.bottom → 0Int ≼
    last.bottom
    → first ≤ᶠ from → to ≤ᶠ last → AwayBetween S clearance a b first last → AwayBetween S clearance a b from to
narrower S clearance a b first last from to h1 h2 h3 h4 l m away g after before =
    away g (at-most-trans first from (at g) h1 h2 (omega arith) l after) (at-most-trans (at g) to last (omega arith) h3 h4 before m)

-- a fraction that is no less than k / 2^24, and one that is no more
share-below : (x : Float) (k : ℕ) → of_nat k ⊠ of_nat unit ≼ worth_of x ⊠ of_nat 16777216 → share 16777216 k ≤ᶠ fraction_of x
share-below x k h = omega (arith, h, ⊠-comm (of_nat k) (of_nat unit), ⊠-comm (worth_of x) (of_nat 16777216))

share-above : (x : Float) (k : ℕ) → worth_of x ⊠ of_nat 16777216 ≼ of_nat k ⊠ of_nat unit → fraction_of x ≤ᶠ share 16777216 k
share-above x k h = omega (arith, h, ⊠-comm (of_nat k) (of_nat unit), ⊠-comm (worth_of x) (of_nat 16777216))

unit-above : 0Int ≺ of_nat unit
unit-above = omega (arith, unit-pos)

module _ (points_a points_b numbers : List Float) where
  -- what is known from one 2^24-th to another
  pub clear-between : (from : Float) (low high : ℕ) → of_nat low ⊠ of_nat unit ≼ worth_of from ⊠ of_nat 16777216 → end points_a points_b numbers ≤ᶠ share
      16777216 high
      → Away points_a points_b numbers (share 16777216 low) (share 16777216 high) → Clear points_a points_b numbers from
  clear-between from low high l m = narrower 1073741824 (keep points_a points_b numbers) (body_a points_a points_b numbers) (body_b points_a points_b numbers)
      (share 16777216 low) (share 16777216 high) (fraction_of from) (end points_a points_b numbers) (omega arith) unit-above unit-above (omega arith)
      (share-below from low l) m

  pub away-up-to : (from : Float) (low u : ℕ) → of_nat low ⊠ of_nat unit ≼ worth_of from ⊠ of_nat 16777216
      → Away points_a points_b numbers (share 16777216 low) (share 16777216 u) → Away points_a points_b numbers (fraction_of from) (share 16777216 u)
  away-up-to from low u l = narrower 1073741824 (keep points_a points_b numbers) (body_a points_a points_b numbers) (body_b points_a points_b numbers)
      (share 16777216 low) (share 16777216 u) (fraction_of from) (share 16777216 u) (omega arith) unit-above (omega arith) (omega arith) (share-below from
      low l) (omega arith)

  -- ---- the window is not empty: wherever the rotation is not 0 there is a turn
  pub a_turn : (points : List Float) (i : ℕ) (m : Moment) → let o = body_of points numbers i in 0Int ≺ dot (heading_at m o) (heading_at m o) → TurnAt m
      1073741824 o
  a_turn points i m h = some_turn m 1073741824 (body_of points numbers i) h

  -- ---- no move is both clear and touching
  same-moment : (t : ℕ) → t ≤ 16777216 → whole (moment_at t) ≃ of_nat 16777216
  same-moment t h = omega arith

  pub clear-or-touch : (from : Float) (u t : ℕ) → let m = moment_at t in
      let a = body_a points_a points_b numbers in
      let b = body_b points_a points_b numbers in
      0Int ≺ dot (heading_at m a) (heading_at m a) → 0Int ≺ dot (heading_at m b) (heading_at m b)
      → t ≤ 16777216 → fraction_of from ≤ᶠ share 16777216 t → Clear points_a points_b numbers from → Touch points_a points_b numbers from u t → ⊥
  clear-or-touch from u t ha hb small after clear touch =
      let m = moment_at t in
      let e = same-moment t small in
      exclude m 1073741824 (keep points_a points_b numbers) (body_a points_a points_b numbers) (body_b points_a points_b numbers) ha hb touch.touching (clear m
      (omega (arith, after, ⊠-cong (whole m) (of_nat 16777216) (worth_of from) (worth_of from) e refl))
      (omega (arith, touch.before, ⊠-cong (whole m) (of_nat 16777216) (end points_a points_b numbers).top (end points_a points_b numbers).top e refl)))
