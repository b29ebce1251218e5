-- What a route's answer says of its sweeps: clear where each is separated, else the first that is not, with the distance calls of all that were run.
use Rattle.std.specs.Prelude.{◌≡◌, true, false, List, ◌⊎◌, ℕ, zero, suc, ◌+◌, ◌<◌, Float}
use Rattle.std.specs.Float.{Format}
use Rattle.model.specs.declared.SweepAnswer.{SweepAnswer}
use Rattle.model.specs.declared.SweepAnswer.TheVariants as Sweep
use Rattle.route_legs.specs.declared.RouteAnswer.{RouteAnswer}
use Rattle.route_legs.specs.declared.RouteAnswer.TheVariants.{Clear, Ended, Refused, Wrong}
use Rattle.route_legs.specs.Route.{outlines, legs, sweep_at, is_separated, calls_of, ended_by, stop}

-- leg m past outline n comes before leg i past outline j
abbrev pub Before : ℕ → ℕ → ℕ → ℕ → Type 0
Before m n i j = (m < i) ⊎ ((m ≡ i) × (n < j))

-- the distance calls that an answer tells
abbrev pub calls_told : RouteAnswer → ℕ
calls_told (Clear n) = n
calls_told (Ended s status c) = s.calls
calls_told (Refused s k) = s.calls
calls_told (Wrong n) = 0

module _ (f : Format) (cart waypoints stills : List Float) (lengths : List ℕ) (slop : Float) where
  -- leg i past outline j, both from 0
  abbrev pub swept : ℕ → ℕ → SweepAnswer
  swept i j = sweep_at f cart waypoints stills lengths slop i j

  abbrev pub L : ℕ
  L = legs f cart waypoints stills lengths slop

  abbrev pub K : ℕ
  K = outlines f cart waypoints stills lengths slop

  -- ---- the distance calls of leg i past the first n outlines, and of the first m legs past all
  unfoldable pub leg_calls : ℕ → ℕ → ℕ
  leg_calls i zero = 0
  leg_calls i (suc n) = leg_calls i n + calls_of (swept i n)

  unfoldable pub route_calls : ℕ → ℕ
  route_calls zero = 0
  route_calls (suc m) = route_calls m + leg_calls m K

  -- ---- the answer
  -- every leg is separated from every still outline
  pub record AllSeparated : Type 0 where
    pub each : (i j : ℕ) → i < L → j < K → is_separated (swept i j) ≡ true

  -- leg i is the first in order that is not, and j its lowest outline
  pub record First (i j : ℕ) : Type 0 where
    pub leg : i < L
    pub outline : j < K
    pub ends : is_separated (swept i j) ≡ false
    pub before : (m n : ℕ) → n < K → Before m n i j → is_separated (swept m n) ≡ true

  -- clear with all distance calls; or what the first such sweep answers, its leg and outline from 1, with the calls up to it and its own
  pub data Outcome : RouteAnswer → Type 0 where
    clear : AllSeparated → Outcome (Clear (route_calls L))
    ended : (i j : ℕ) → First i j → Outcome (ended_by f (swept i j) (stop (i + 1) (j + 1) (route_calls i + leg_calls i (j + 1))))

  -- the sweep that ends a route is refused by that number
  pub data RefusedAt : ℕ → Type 0 where
    at : {k : ℕ} (i j : ℕ) → First i j → swept i j ≡ Sweep.Refused k → RefusedAt k
