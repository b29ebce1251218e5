-- An answer that holds, told; and a list of the wrong length. Assumes nothing.
use mathlib.Core.Path.{◌≡◌, refl, sym, ◌∙◌}
use mathlib.Core.Bool.{true, false, ◌&&◌, true≢false}
use mathlib.Core.List.{List}
use Prim.Native.Nat.{ℕ}
use borrow.Author.Tests.{eqb-true}
use lib.Dec.{eqb}
use lib.ListN.{length}
use lib.Ieee.{Float}
use Rattle.model.proofs.DistanceCall.{both}
use Rattle.route_clearance_legs.specs.declared.RouteCleared.{RouteCleared}
use Rattle.route_clearance_legs.specs.Looks.{Told}
use Rattle.route_clearance_lists.specs.Entry.{route_number, fractions_after, place_after, route_fits, RouteClearanceTold}

module _ (out : List Float) (place : List ℕ) where
  pub both_long : route_fits out place ≡ true → (length out ≡ 2) × (length place ≡ 3)
  both_long fits = let h = both (eqb (length out) 2) (eqb (length place) 3) fits in (eqb-true _ _ h.0, eqb-true _ _ h.1)

  module _ (cart waypoints stills : List Float) (lengths : List ℕ) (slop : Float) where
    pub reported : (x : RouteCleared) (out' : List Float) (place' : List ℕ) (r : ℕ) → route_fits out place ≡ true → Told cart waypoints stills lengths slop x
        → (r ≡ route_number x) × (out' ≡ fractions_after x out) × (place' ≡ place_after x place)
        → RouteClearanceTold cart waypoints stills lengths slop out place out' place' r
    reported x out' place' r fits holds told = record {
      told = λ e. record { answer = x; holds = holds; number = told.0; fractions = told.1; ended = told.2 };
      misfit = λ e. absurd (true≢false (sym fits ∙ e));
    }

    pub misfit : route_fits out place ≡ false → RouteClearanceTold cart waypoints stills lengths slop out place out place 255
    misfit fits = record {
      told = λ e. absurd (true≢false (sym e ∙ fits));
      misfit = λ e. record { number = refl; fractions = refl; ended = refl };
    }
