-- `route_line::after_word` meets its contract, by what its callee ensures. Assumes nothing.
use borrow.Author.Rules.{rules}
use Rattle.route_line.specs.Line.{after_word}
use Rattle.route_line.proofs.after_word.Goals as goal

pub returns : goal.returns
unfolding after_word
returns c = simp c.place_after_word-place.ensures
