-- `route_legs::walk` meets its contract: what is left to sweep comes to what the whole does. Assumes nothing.
use mathlib.Core.Path.{◌≡◌}
use Prim.Native.Nat.{◌≤◌, ◌-◌, ◌*◌}
use lib.Ieee.{binary32}
use Rattle.route_legs.specs.Route.{walk_from}
use Rattle.route_legs.proofs.walk.Given as goal

abbrev pub invariant-loop-k : goal.invariant-loop-k
invariant-loop-k l =
    (l.calls ≤ 20 * l.k)
    × (walk_from binary32 l.lists.cart.now l.lists.waypoints.now l.lists.stills.now l.lists.lengths.now l.lists.slop (l.sweeps - l.k) l.k l.calls ≡ walk_from binary32 l.lists.cart.now l.lists.waypoints.now l.lists.stills.now l.lists.lengths.now l.lists.slop l.sweeps 0 0)
