-- `route_legs::start_of` meets its contract: the lengths so far add up. Assumes nothing.
use Rattle.std.proofs.Common.{◌≡◌, ◌*◌, ◌≤◌}
use Rattle.route_legs.specs.Route.{start_of}
use Rattle.route_legs.proofs.start_of.Given as goal

abbrev pub invariant-loop-n : goal.invariant-loop-n
invariant-loop-n l = (l.start ≡ start_of l.lengths l.n-index) × (l.start ≤ 0x1_0000_0000 * l.n-index)
