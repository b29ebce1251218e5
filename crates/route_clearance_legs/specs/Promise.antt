-- What a route's answer says of the whole way. All numbers are exact, nothing is rounded; the words are those of `planned`.
use Rattle.std.specs.Prelude.{◌≡◌, List, ℕ, ◌+◌, ◌*◌, ◌≤◌, ◌<◌, length, Float}
use Rattle.std.specs.Float.{binary32}
use Rattle.model.specs.Ground as Ground
use Rattle.planned.specs.Planned as Planned
use Rattle.route_legs.specs.Route.{outline_at, legs}
use Rattle.route_legs.specs.Promise.{Before}
use Rattle.clearance_call.specs.Call.{refusal_of}
use Rattle.route_clearance_legs.specs.declared.End.{End}
use Rattle.route_clearance_legs.specs.declared.RouteCleared.{RouteCleared}
use Rattle.route_clearance_legs.specs.declared.RouteCleared.TheVariants.{Clear, Touch, Open, Refused, Wrong}
use Rattle.route_clearance_legs.specs.Looks.{leg_numbers, wrong_lists}

-- the pieces that an answer tells
abbrev pub pieces_told : RouteCleared → ℕ
pieces_told (Clear pieces) = pieces
pieces_told (Touch e u t) = e.pieces
pieces_told (Open e u) = e.pieces
pieces_told (Refused e n) = e.pieces
pieces_told (Wrong n) = 0

module _ (cart waypoints stills : List Float) (lengths : List ℕ) (slop : Float) where
  abbrev pub L : ℕ
  L = legs binary32 cart waypoints stills lengths slop

  abbrev pub K : ℕ
  K = length lengths

  -- ---- of leg i past still outline j, both from 0
  -- at every moment of the leg, ends included, every point of the cart is farther than the slop from every point of the outline
  abbrev pub ClearOn : ℕ → ℕ → Type 0
  ClearOn i j = Planned.Clear cart (outline_at stills lengths j) (leg_numbers waypoints slop i) (Ground.zero binary32)

  -- so up to u, and at t they are not farther apart than the slop; u and t in 2^24-ths of the leg
  abbrev pub TouchOn : (u t : ℕ) → ℕ → ℕ → Type 0
  TouchOn u t i j = Planned.Touch cart (outline_at stills lengths j) (leg_numbers waypoints slop i) (Ground.zero binary32) u t

  -- so up to u; what comes later was not settled
  abbrev pub OpenOn : (u : ℕ) → ℕ → ℕ → Type 0
  OpenOn u i j = Planned.Open cart (outline_at stills lengths j) (leg_numbers waypoints slop i) (Ground.zero binary32) u

  -- the number by which a sweep of that leg past that outline is refused, 0 where it is not
  abbrev pub refusal_on : ℕ → ℕ → ℕ
  refusal_on i j = refusal_of cart (outline_at stills lengths j) (leg_numbers waypoints slop i) (Ground.zero binary32)

  -- ---- of a route
  -- leg i past outline j is the first pair in order that is not told clear: no pair before is refused, and all are clear
  pub record StopsAt (i j : ℕ) : Type 0 where
    pub leg : i < L
    pub outline : j < K
    pub before : (m n : ℕ) → n < K → Before m n i j → (refusal_on m n ≡ 0) × ClearOn m n

  -- told from 1, with at most 4,096 pieces for each pair, and of that pair this holds
  pub record Stopped (e : End) (Holds : ℕ → ℕ → Type 0) : Type 0 where
    pub right : wrong_lists waypoints stills lengths ≡ 0
    pub i : ℕ
    pub j : ℕ
    pub leg-told : e.leg ≡ i + 1
    pub outline-told : e.outline ≡ j + 1
    pub stops : StopsAt i j
    pub holds : Holds i j
    pub few : e.pieces ≤ 4096 * (i * K + j + 1)

  -- every leg is clear of every still outline
  pub record AllClear : Type 0 where
    pub right : wrong_lists waypoints stills lengths ≡ 0
    pub each : (i j : ℕ) → i < L → j < K → (refusal_on i j ≡ 0) × ClearOn i j

  -- a pair is told as refused exactly where it is
  abbrev pub Says : RouteCleared → Type 0
  Says (Clear pieces) = AllClear × (pieces ≤ 4096 * (L * K))
  Says (Touch e u t) = Stopped e (λ i j. (refusal_on i j ≡ 0) × TouchOn u t i j × (t ≤ 16777216))
  Says (Open e u) = Stopped e (λ i j. (refusal_on i j ≡ 0) × OpenOn u i j × (u ≤ 16777216))
  Says (Refused e n) = Stopped e (λ i j. (refusal_on i j ≡ n) × (0 < n))
  Says (Wrong n) = (wrong_lists waypoints stills lengths ≡ n) × (0 < n)
