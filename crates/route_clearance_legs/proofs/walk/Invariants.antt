-- `route_clearance_legs::walk` meets its contract: the pairs so far are clear, and those left fall. Assumes nothing.
use Rattle.route_legs.proofs.Walks.{leg-few, outline-few}
use Rattle.route_clearance_legs.proofs.Walks.{at_first, few-pieces, looked-in-order, ended-in-order, ends-here, goes_on, all-passed}
use Prim.Native.Nat.{◌≤◌, ◌-◌, ◌*◌}
use native.Mathlib.Omega.{arith}
use borrow.Author.Rules.{rules}
use Rattle.route_clearance_legs.specs.Looks.{Passed}
use Rattle.route_clearance_legs.proofs.walk.Given as goal

abbrev pub invariant-loop-k : goal.invariant-loop-k
invariant-loop-k l =
    (l.k ≤ l.pairs) × (l.pieces ≤ 4096 * l.k) × Passed l.cart l.waypoints l.stills l.lengths l.slop l.k l.pieces
