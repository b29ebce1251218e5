-- What the entry point of a route answers, and what it leaves in the lists that it was lent.
use Rattle.std.specs.Prelude.{◌≡◌, ℕ, Bool, ◌&&◌, cond, List, [], ◌∷◌, eqb, length, Float}
use Rattle.std.specs.Float.{binary32}
use Rattle.model.specs.declared.Status.{Status}
use Rattle.model.specs.declared.Status.TheVariants.{Overlapped, Hit, Separated, Failed}
use Rattle.route_legs.specs.declared.Stop.{Stop}
use Rattle.route_legs.specs.declared.RouteAnswer.{RouteAnswer}
use Rattle.route_legs.specs.declared.RouteAnswer.TheVariants.{Clear, Ended, Refused, Wrong}
use Rattle.route_legs.specs.Route.{route}
use Rattle.list_calls.specs.Entry.{contact_floats}

-- a status that ends a route; separated ends none
abbrev pub end_number : Status → ℕ
end_number Overlapped = 33
end_number Hit = 34
end_number Separated = 32
end_number Failed = 35

abbrev pub route_number : RouteAnswer → ℕ
route_number (Clear calls) = 32
route_number (Ended s status c) = end_number status
route_number (Refused s k) = k
route_number (Wrong k) = k

-- the floats of the sweep that ends it
abbrev pub floats_after : RouteAnswer → List Float → List Float
floats_after (Clear calls) out = out
floats_after (Ended s status c) out = contact_floats c
floats_after (Refused s k) out = out
floats_after (Wrong k) out = out

-- leg and outline, from 1, and distance calls; 0 and 0 where it is clear
abbrev pub stop_words : Stop → List ℕ
stop_words s = s.leg ∷ s.outline ∷ s.calls ∷ []

abbrev pub place_after : RouteAnswer → List ℕ → List ℕ
place_after (Clear calls) place = 0 ∷ 0 ∷ calls ∷ []
place_after (Ended s status c) place = stop_words s
place_after (Refused s k) place = stop_words s
place_after (Wrong k) place = place

abbrev pub route_fits : List Float → List ℕ → Bool
route_fits out place = eqb (length out) 5 && eqb (length place) 3

pub record RouteTold (cart waypoints stills : List Float) (lengths : List ℕ) (slop : Float) (out : List Float) (place : List ℕ) (out' : List Float)
    (place' : List ℕ) (r : ℕ) : Type 0 where
  pub number : r ≡ cond (route_fits out place) (route_number (route binary32 cart waypoints stills lengths slop)) 255
  pub contact : out' ≡ cond (route_fits out place) (floats_after (route binary32 cart waypoints stills lengths slop) out) out
  pub stopped : place' ≡ cond (route_fits out place) (place_after (route binary32 cart waypoints stills lengths slop) place) place
