-- `route_legs::ended_by` meets its contract, by what its callees ensure. Assumes nothing.
use Rattle.route_legs.proofs.ended_by.Goals as goal

pub returns : goal.returns
returns c = rw (c.ended_with.ensures, c.told_by.ensures)
