-- `route_line::is_route` meets its contract, by what its callee ensures. Assumes nothing.
use borrow.Author.Rules.{rules}
use Rattle.route_line.proofs.is_route.Goals as goal

pub returns : goal.returns
returns c = simp c.has_cart.ensures
