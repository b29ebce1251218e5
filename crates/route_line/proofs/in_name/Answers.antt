-- `route_line::in_name` meets its contract, by what its callees ensure. Assumes nothing.
use borrow.Author.Rules.{rules}
use Rattle.route_line.specs.Line.{in_name}
use Rattle.route_line.proofs.in_name.Goals as goal

pub returns : goal.returns
unfolding in_name
returns c = simp (c.place_in_name-place.ensures, c.kind_at-kind.ensures)
