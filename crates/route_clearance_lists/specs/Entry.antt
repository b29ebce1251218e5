-- What a route that is looked at as a whole answers by a number, and what it leaves in the lists that it was lent. A list of the wrong length is told by 255,
-- and nothing is written.
use Rattle.std.specs.Prelude.{◌≡◌, ℕ, Bool, true, false, ◌&&◌, List, [], ◌∷◌, eqb, length, Float}
use Rattle.std.specs.Float.{binary32}
use Rattle.model.specs.Ground as Ground
use Rattle.clearance_lists.specs.Entry.{fraction_at}
use Rattle.route_clearance_legs.specs.declared.End.{End}
use Rattle.route_clearance_legs.specs.declared.RouteCleared.{RouteCleared}
use Rattle.route_clearance_legs.specs.declared.RouteCleared.TheVariants.{Clear, Touch, Open, Refused, Wrong}
use Rattle.route_clearance_legs.specs.Looks.{Told}

abbrev pub route_number : RouteCleared → ℕ
route_number (Clear pieces) = 32
route_number (Touch e u t) = 33
route_number (Open e u) = 34
route_number (Refused e k) = k
route_number (Wrong k) = k

-- the end of a leg
abbrev pub leg_end : Float
leg_end = Ground.one binary32

-- the end twice of CLEAR, u and t of TOUCH, u and the end of OPEN
abbrev pub fractions_after : RouteCleared → List Float → List Float
fractions_after (Clear pieces) out = leg_end ∷ leg_end ∷ []
fractions_after (Touch e u t) out = fraction_at u ∷ fraction_at t ∷ []
fractions_after (Open e u) out = fraction_at u ∷ leg_end ∷ []
fractions_after (Refused e k) out = out
fractions_after (Wrong k) out = out

-- leg and outline, from 1, and pieces; 0 and 0 where it is clear
abbrev pub end_words : End → List ℕ
end_words e = e.leg ∷ e.outline ∷ e.pieces ∷ []

abbrev pub place_after : RouteCleared → List ℕ → List ℕ
place_after (Clear pieces) place = 0 ∷ 0 ∷ pieces ∷ []
place_after (Touch e u t) place = end_words e
place_after (Open e u) place = end_words e
place_after (Refused e k) place = end_words e
place_after (Wrong k) place = place

abbrev pub route_fits : List Float → List ℕ → Bool
route_fits out place = eqb (length out) 2 && eqb (length place) 3

module _ (cart waypoints stills : List Float) (lengths : List ℕ) (slop : Float) (out : List Float) (place : List ℕ) (out' : List Float) (place' : List ℕ)
    (r : ℕ) where
  -- an answer that holds, told by its number and in the lists
  pub record Reported : Type 0 where
    pub answer : RouteCleared
    pub holds : Told cart waypoints stills lengths slop answer
    pub number : r ≡ route_number answer
    pub fractions : out' ≡ fractions_after answer out
    pub ended : place' ≡ place_after answer place

  pub record Misfit : Type 0 where
    pub number : r ≡ 255
    pub fractions : out' ≡ out
    pub ended : place' ≡ place

  pub record RouteClearanceTold : Type 0 where
    pub told : route_fits out place ≡ true → Reported
    pub misfit : route_fits out place ≡ false → Misfit
