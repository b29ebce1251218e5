-- `route_clearance_legs::leg_numbers` meets its contract, by what its callees ensure. Assumes nothing.
use Rattle.route_clearance_legs.specs.Looks.{leg_numbers}
use borrow.Author.Rules.{rules}
use Rattle.route_clearance_legs.proofs.leg_numbers.Goals as goal

pub returns : goal.returns
unfolding leg_numbers
returns c = simp (
  c.point-q2.ensures,
  c.point-c2.ensures,
  c.point-q1.ensures,
  c.point-c1.ensures,
)
