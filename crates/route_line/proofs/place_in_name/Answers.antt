-- `route_line::place_in_name` meets its contract, case by case. Assumes nothing.
use borrow.Author.Rules.{rules}
use Rattle.route_line.proofs.place_in_name.Goals as goal

pub returns-in-Nothing : goal.returns-in-Nothing
returns-in-Nothing c = simp (c.named.ensures, c.in-Nothing.is)

pub returns-in-Slop : goal.returns-in-Slop
returns-in-Slop c = simp (c.named-in-Slop.ensures, c.in-Slop.is)

pub returns-in-Cart : goal.returns-in-Cart
returns-in-Cart c = simp (c.named-in-Cart.ensures, c.in-Cart.is)

pub returns-in-At : goal.returns-in-At
returns-in-At c = simp (c.named-in-At.ensures, c.in-At.is)

pub returns-in-Still : goal.returns-in-Still
returns-in-Still c = simp (c.named-in-Still.ensures, c.in-Still.is)
