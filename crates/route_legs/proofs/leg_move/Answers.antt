-- `route_legs::leg_move` meets its contract, by what its callees ensure. Assumes nothing.
use Rattle.route_legs.specs.Route.{leg_move}
use Rattle.route_legs.proofs.leg_move.Goals as goal

pub returns : goal.returns
unfolding leg_move
returns c = simp (
  c.turn-q2.ensures,
  c.point-2.ensures,
  c.point-c2.ensures,
  c.turn-q1.ensures,
  c.point.ensures,
  c.point-c1.ensures,
)
