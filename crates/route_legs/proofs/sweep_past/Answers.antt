-- `route_legs::sweep_past` meets its contract, by what its callees ensure. Assumes nothing.
use lib.Ieee.{binary32}
use Rattle.model.proofs.Searches.{answer-as-ever}
use Rattle.route_legs.proofs.sweep_past.Goals as goal

pub returns : goal.returns
returns c = rw (c.sweep_time_of_impact-swept.ensures, c.still_move.ensures, c.leg_move.ensures) (answer-as-ever binary32 _ _ _ _ _ _ _ _)
