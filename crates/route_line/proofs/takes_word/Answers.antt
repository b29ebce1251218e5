-- `route_line::takes_word` meets its contract, case by case. Assumes nothing.
use borrow.Author.Rules.{rules}
use Rattle.route_line.proofs.takes_word.Goals as goal

pub returns-in-Slop : goal.returns-in-Slop
returns-in-Slop c = simp c.in-Slop.is

pub returns-in-At : goal.returns-in-At
returns-in-At c = simp c.in-At.is
