-- A route looked at pair by pair: leg by leg, and on a leg outline by outline, until one is not clear. Legs and outlines are `route`'s own. A look that is
-- not refused promises something of its pair (`clearance_call`), and which of its answers comes is the search's; so what is said here of a route's answer is
-- said of every answer that may come.
use Rattle.std.specs.Prelude.{◌≡◌, Bool, true, false, List, [], ◌∷◌, ℕ, zero, suc, ◌+◌, ◌*◌, ◌/◌, ◌%◌, ◌<◌, length, Float}
use Rattle.std.specs.Float.{nan, binary32}
use Rattle.model.specs.Ground as Ground
use Rattle.model.specs.Support.{point}
use Rattle.route_legs.specs.Route.{outline_at, outlines, legs, wrong}
use Rattle.clearance_call.specs.declared.Cleared.{Cleared}
use Rattle.clearance_call.specs.declared.Cleared.TheVariants as cleared
use Rattle.clearance_call.specs.Call as Call
use Rattle.route_clearance_legs.specs.declared.End.{End}
use Rattle.route_clearance_legs.specs.declared.RouteCleared.{RouteCleared}
use Rattle.route_clearance_legs.specs.declared.RouteCleared.TheVariants.{Clear, Touch, Open, Refused, Wrong}

-- ---- a pair: leg i past an outline
-- The numbers of leg i, from 0, as a sweep has them: no radii; all of the leg, and the slop as the distance to keep; the cart's local centre 0, its centre and
-- its rotation at waypoint i and at the next; and what stands still and unturned at 0. `as-swept` in proofs/ says that these are the moves of `route`'s sweep.
unfoldable pub leg_numbers : (waypoints : List Float) (slop : Float) (i : ℕ) → List Float
leg_numbers waypoints slop i =
    let z = Ground.zero binary32 in
    let one = Ground.one binary32 in
    let c1 = point waypoints (2 * i) in
    let q1 = point waypoints (2 * i + 1) in
    let c2 = point waypoints (2 * i + 2) in
    let q2 = point waypoints (2 * i + 3) in
    z ∷ z ∷ one ∷ slop
    ∷ z ∷ z ∷ c1.x ∷ c1.y ∷ c2.x ∷ c2.y ∷ q1.x ∷ q1.y ∷ q2.x ∷ q2.y
    ∷ z ∷ z ∷ z ∷ z ∷ z ∷ z ∷ one ∷ z ∷ one ∷ z ∷ []

abbrev pub ToldPast : (cart waypoints : List Float) (slop : Float) (i : ℕ) (still : List Float) → Cleared → Type 0
ToldPast cart waypoints slop i still = Call.Told cart still (leg_numbers waypoints slop i) (Ground.zero binary32)

-- ---- what a pair's answer tells of the route
abbrev pub is_clear : Cleared → Bool
is_clear (cleared.Refused k) = false
is_clear (cleared.Clear n) = true
is_clear (cleared.Touch u t n) = false
is_clear (cleared.Open u n) = false

-- a refused pair is not looked at
abbrev pub pieces_of : Cleared → ℕ
pieces_of (cleared.Refused k) = 0
pieces_of (cleared.Clear n) = n
pieces_of (cleared.Touch u t n) = n
pieces_of (cleared.Open u n) = n

-- where a pair ends the route its answer is told as it is; a clear one ends none
abbrev pub ended_by : Cleared → End → RouteCleared
ended_by (cleared.Refused k) e = Refused e k
ended_by (cleared.Clear n) e = Open e 0
ended_by (cleared.Touch u t n) e = Touch e u t
ended_by (cleared.Open u n) e = Open e u

abbrev pub end : ℕ → ℕ → ℕ → End
end leg outline pieces = record { leg = leg; outline = outline; pieces = pieces }

-- pair k, from 0, is leg k / outlines past outline k % outlines; leg and outline are told from 1
abbrev pub end_at : ℕ → ℕ → ℕ → End
end_at outlines k pieces = end (k / outlines + 1) (k % outlines + 1) pieces

-- as `route` tells it, whatever the cart and the slop: 0 where nothing is wrong
abbrev pub wrong_lists : (waypoints stills : List Float) (lengths : List ℕ) → ℕ
wrong_lists waypoints stills lengths = wrong binary32 [] waypoints stills lengths nan

module _ (cart waypoints stills : List Float) (lengths : List ℕ) (slop : Float) where
  -- leg i past still outline j, both from 0
  unfoldable pub ToldAt : ℕ → ℕ → Cleared → Type 0
  ToldAt i j = ToldPast cart waypoints slop i (outline_at stills lengths j)

  -- pair k in their order
  abbrev pub ToldIn : ℕ → Cleared → Type 0
  ToldIn k = ToldAt (k / length lengths) (k % length lengths)

  -- the first k pairs are clear, with so many pieces
  pub data Passed : ℕ → ℕ → Type 0 where
    none : Passed 0 0
    more : {k pieces : ℕ} (n : ℕ) → Passed k pieces → ToldIn k (cleared.Clear n) → Passed (suc k) (pieces + n)

  -- of so many pairs all are clear; or the pair after the first k ends the route with its own answer
  pub data Walked (pairs : ℕ) : RouteCleared → Type 0 where
    passed : {pieces : ℕ} → Passed pairs pieces → Walked pairs (Clear pieces)
    ended : {k pieces : ℕ} (x : Cleared) → k < pairs → Passed k pieces → ToldIn k x → is_clear x ≡ false →
        Walked pairs (ended_by x (end_at (length lengths) k (pieces + pieces_of x)))

  -- ---- the route: the lists are wrong, or its pairs are looked at
  pub data Told : RouteCleared → Type 0 where
    wrongly : {n : ℕ} → wrong_lists waypoints stills lengths ≡ n → 0 < n → Told (Wrong n)
    walked : {r : RouteCleared} → wrong_lists waypoints stills lengths ≡ 0 → Walked (legs binary32 cart waypoints stills lengths slop * length lengths) r
        → Told r
