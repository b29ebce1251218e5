-- A pair's numbers are those of `route`'s sweep: the same two moves, no radii, the whole leg; the distance to keep is the slop; and a pair is refused as
-- that sweep is, by the same number. Assumes nothing.
use mathlib.Core.Path.{◌≡◌, refl, ◌∙◌}
use mathlib.Core.List.{List}
use Prim.Native.Nat.{ℕ, ◌+◌, ◌*◌}
use native.Mathlib.Omega.{arith}
use lib.Ieee.{Float, binary32, of_bits, to_bits}
use Rattle.model.specs.Ground as Ground
use Rattle.model.specs.Support.{point}
use Rattle.model.specs.Work.{move_at}
use Rattle.model.specs.SweepToi.{sweep_refusal}
use Rattle.grid.specs.Units.{size}
use Rattle.planned.specs.Planned.{size_of, larger_of, keep, end, fraction_of}
use Rattle.route_legs.specs.Route.{leg_move, still_move, outline_at}
use Rattle.clearance_call.proofs.Whole.{as-the-sweep}
use Rattle.route_clearance_legs.specs.Looks.{leg_numbers}
use Rattle.route_clearance_legs.specs.Promise.{refusal_on}

module _ (waypoints : List Float) (slop : Float) (i : ℕ) where
  pub cart-moves : move_at (leg_numbers waypoints slop i) 2 ≡ leg_move binary32 waypoints i
  unfolding move_at leg_numbers leg_move
  cart-moves = refl

  pub outline-stands : move_at (leg_numbers waypoints slop i) 7 ≡ still_move binary32
  unfolding move_at leg_numbers
  outline-stands = refl

  none_more : (n : ℕ) → larger_of n 0 ≡ n
  none_more n = omega arith

  pub keeps-slop : (cart still : List Float) → keep cart still (leg_numbers waypoints slop i) ≡ size_of slop
  unfolding leg_numbers of_bits to_bits size
  keeps-slop cart still = none_more (size_of slop)

  pub whole-leg : (cart still : List Float) → end cart still (leg_numbers waypoints slop i) ≡ fraction_of (Ground.one binary32)
  unfolding leg_numbers
  whole-leg cart still = refl

module _ (cart waypoints stills : List Float) (lengths : List ℕ) (slop : Float) where
  pub as-swept : (i j : ℕ) → refusal_on cart waypoints stills lengths slop i j
      ≡ sweep_refusal binary32 cart (Ground.zero binary32) (leg_move binary32 waypoints i) (outline_at stills lengths j) (Ground.zero binary32)
      (still_move binary32) (Ground.one binary32) slop
  unfolding move_at leg_numbers leg_move
  as-swept i j = as-the-sweep cart (outline_at stills lengths j) (leg_numbers waypoints slop i)
