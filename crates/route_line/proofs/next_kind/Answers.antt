-- `route_line::next_kind` meets its contract, case by case. Assumes nothing.
use borrow.Author.Rules.{rules}
use Rattle.route_line.proofs.next_kind.Goals as goal

pub returns-in-Cart : goal.returns-in-Cart
returns-in-Cart c = simp (c.at_or_still.ensures, c.in-Cart.is)

pub returns-in-At : goal.returns-in-At
returns-in-At c = simp (c.at_or_still-in-At.ensures, c.in-At.is)
