-- What the entry point of a route tells. Assumes nothing.
use mathlib.Core.Path.{◌≡◌, refl}
use mathlib.Core.Bool.{true, false}
use mathlib.Core.List.{List}
use Prim.Native.Nat.{ℕ}
use borrow.Author.Tests.{eqb-true}
use lib.Dec.{eqb}
use lib.ListN.{length}
use lib.Ieee.{Float, binary32}
use Rattle.model.proofs.DistanceCall.{both}
use Rattle.route_legs.specs.declared.RouteAnswer.{RouteAnswer}
use Rattle.route_legs.specs.Route.{route}
use Rattle.foldflake.specs.Route.{route_number, floats_after, place_after, route_fits, RouteTold}

module _ (cart waypoints stills : List Float) (lengths : List ℕ) (slop : Float) (out : List Float) (place : List ℕ) where
  pub route-lengths : route_fits out place ≡ true → (length out ≡ 5) × (length place ≡ 3)
  route-lengths fits = let sizes = both (eqb (length out) 5) (eqb (length place) 3) fits in (eqb-true _ _ sizes.0, eqb-true _ _ sizes.1)

  pub route-told : (x : RouteAnswer) (out' : List Float) (place' : List ℕ) (r : ℕ) → route_fits out place ≡ true →
      x ≡ route binary32 cart waypoints stills lengths slop → (r ≡ route_number x) × (out' ≡ floats_after x out) × (place' ≡ place_after x place) →
      RouteTold cart waypoints stills lengths slop out place out' place' r
  route-told x out' place' r fits is told =
      record { number = rw (fits, ← is) told.0; contact = rw (fits, ← is) told.1; stopped = rw (fits, ← is) told.2 }

  pub route-misfit : route_fits out place ≡ false → RouteTold cart waypoints stills lengths slop out place out place 255
  route-misfit fits = record { number = rw fits refl; contact = rw fits refl; stopped = rw fits refl }
