-- `route_clearance_legs::look_past` meets its contract, by what its callees ensure. Assumes nothing.
use borrow.Author.Rules.{rules}
use Rattle.route_clearance_legs.proofs.look_past.Goals as goal

pub returns : goal.returns
returns c = rw c.leg_numbers-numbers.ensures at c.clearance.ensures
