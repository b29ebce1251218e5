-- `route_line::in_word` meets its contract, by what its callees ensure. Assumes nothing.
use borrow.Author.Rules.{rules}
use Rattle.route_line.specs.Line.{in_word}
use Rattle.route_line.proofs.in_word.Goals as goal

pub returns : goal.returns
unfolding in_word
returns c = simp (
  c.count_in_word-count.ensures,
  c.next_value-value.ensures,
  c.place_in_word-place.ensures,
  c.hex_digit-digit.ensures,
)
