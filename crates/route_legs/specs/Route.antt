-- A route: a cart goes leg by leg past still outlines, and the first sweep that is not separated ends it.
use Rattle.std.specs.Prelude.{ℕ, zero, suc, ◌+◌, ◌-◌, ◌*◌, ◌/◌, ◌%◌, Bool, true, false, ◌||◌, cond, List, eqb, ltb, length, get_or, take, drop, Float, Result, Ok, Err}
use Rattle.std.specs.Float.{Format}
use Rattle.model.specs.declared.Sweep.{Sweep}
use Rattle.model.specs.declared.Verdict.{Verdict}
use Rattle.model.specs.declared.Refusal.{Refusal}
use Rattle.model.specs.declared.SweepAnswer.{SweepAnswer}
use Rattle.model.specs.declared.SweepAnswer.TheVariants as Swept
use Rattle.model.specs.Ground.{rotation, origin, one}
use Rattle.model.specs.Ground as Ground
use Rattle.model.specs.Support.{point}
use Rattle.model.specs.SweepToi.{sweep_time_of_impact}
use Rattle.model.specs.Corners.{no_search}
use Rattle.model.specs.Work.{turn, told_by}
use Rattle.route_legs.specs.declared.Stop.{Stop}
use Rattle.route_legs.specs.declared.RouteAnswer.{RouteAnswer}
use Rattle.route_legs.specs.declared.RouteAnswer.TheVariants.{Clear, Ended, Refused, Wrong}

-- ---- what moves, and past what
-- leg i, from 0: from waypoint i to the next, each of two pairs, its centre and its rotation
unfoldable pub leg_move : Format → List Float → ℕ → Sweep
leg_move f waypoints i = record {
  local_center = origin f;
  c1 = point waypoints (2 * i);
  c2 = point waypoints (2 * i + 2);
  q1 = turn (point waypoints (2 * i + 1));
  q2 = turn (point waypoints (2 * i + 3));
}

abbrev pub still_move : Format → Sweep
still_move f = record {
  local_center = origin f;
  c1 = origin f;
  c2 = origin f;
  q1 = rotation (one f) (Ground.zero f);
  q2 = rotation (one f) (Ground.zero f);
}

-- where still outline j, from 0, starts in the flat list: the lengths before it added up
unfoldable pub start_of : List ℕ → ℕ → ℕ
start_of lengths zero = 0
start_of lengths (suc j) = start_of lengths j + get_or lengths j 0

abbrev pub outline_at : List Float → List ℕ → ℕ → List Float
outline_at stills lengths j = take (get_or lengths j 0) (drop (start_of lengths j) stills)

-- ---- what a sweep tells of the route
abbrev pub is_separated : SweepAnswer → Bool
is_separated (Swept.Overlapped n) = false
is_separated (Swept.Hit c n) = false
is_separated (Swept.Separated c n) = true
is_separated (Swept.Failed c n) = false
is_separated (Swept.Refused k) = false

-- a refused sweep makes no distance call
abbrev pub calls_of : SweepAnswer → ℕ
calls_of (Swept.Overlapped n) = n.distance_calls
calls_of (Swept.Hit c n) = n.distance_calls
calls_of (Swept.Separated c n) = n.distance_calls
calls_of (Swept.Failed c n) = n.distance_calls
calls_of (Swept.Refused k) = 0

-- with its own status and floats, or its own number; no corners are told
abbrev pub ended_with : Stop → Result Verdict Refusal → RouteAnswer
ended_with s (Ok v) = Ended s v.status v.contact
ended_with s (Err r) = Refused s r.number

abbrev pub ended_by : Format → SweepAnswer → Stop → RouteAnswer
ended_by f x s = ended_with s (told_by f no_search x)

abbrev pub stop : ℕ → ℕ → ℕ → Stop
stop leg outline calls = record { leg = leg; outline = outline; calls = calls }

-- leg by leg, and on a leg outline by outline: sweep k, from 0, past that many outlines on each leg; leg and outline are told from 1
abbrev pub stop_at : ℕ → ℕ → ℕ → Stop
stop_at outlines k calls = stop (k / outlines + 1) (k % outlines + 1) calls

-- ---- the sweeps: no radii, the whole of each leg
abbrev pub sweep_past : Format → List Float → List Float → Float → ℕ → List Float → SweepAnswer
sweep_past f cart waypoints slop i still =
    sweep_time_of_impact f cart (Ground.zero f) (leg_move f waypoints i) still (Ground.zero f) (still_move f) (one f) slop

module _ (f : Format) (cart waypoints stills : List Float) (lengths : List ℕ) (slop : Float) where
  abbrev pub outlines : ℕ
  outlines = length lengths

  abbrev pub legs : ℕ
  legs = length waypoints / 4 - 1

  -- of leg i past outline j
  unfoldable pub sweep_at : ℕ → ℕ → SweepAnswer
  sweep_at i j = sweep_past f cart waypoints slop i (outline_at stills lengths j)

  -- sweep k in their order
  abbrev pub sweep_in : ℕ → SweepAnswer
  sweep_in k = sweep_at (k / outlines) (k % outlines)

  -- so many sweeps left, from sweep k on, after so many distance calls
  unfoldable pub walk_from : ℕ → ℕ → ℕ → RouteAnswer
  walk_from zero k calls = Clear calls
  walk_from (suc left) k calls =
      let x = sweep_in k in
      let all = calls + calls_of x in
      cond (is_separated x) (walk_from left (k + 1) all) (ended_by f x (stop_at outlines k all))

  -- ---- the route
  -- waypoints of four numbers, 2 to 33 of them, 1 to 32 outlines, lengths that add up
  abbrev pub wrong : ℕ
  wrong =
      cond (eqb (length waypoints % 4) 0)
      (cond (ltb (length waypoints / 4) 2 || ltb 33 (length waypoints / 4)) 16
      (cond (eqb outlines 0 || ltb 32 outlines) 17
      (cond (eqb (start_of lengths outlines) (length stills)) 0 255)))
      255

  abbrev pub route_by : ℕ → RouteAnswer
  route_by zero = walk_from (legs * outlines) 0 0
  route_by (suc n) = Wrong (suc n)

  unfoldable pub route : RouteAnswer
  route = route_by wrong
