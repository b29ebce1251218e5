-- `route_clearance_legs::start_of` meets its contract: the lengths so far add up, and those left fall. Assumes nothing.
use mathlib.Core.Path.{◌≡◌}
use Prim.Native.Nat.{◌≤◌, ◌-◌, ◌*◌}
use native.Mathlib.Omega.{arith}
use native.Mathlib.Nat.{le_antisymm}
use borrow.Author.Rules.{rules}
use Rattle.route_legs.specs.Route.{start_of}
use Rattle.route_legs.proofs.Starts.{start_none, start-more}
use Rattle.route_clearance_legs.proofs.start_of.Given as goal

abbrev pub invariant-loop-i : goal.invariant-loop-i
invariant-loop-i l = (l.i ≤ l.j) × (l.start ≡ start_of l.lengths l.i) × (l.start ≤ 0x1_0000_0000 * l.i)
