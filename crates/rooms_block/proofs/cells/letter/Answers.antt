-- `rooms_block::cells::letter` meets its contract, by what the look says. Assumes nothing.
use Rattle.rooms_block.proofs.Laws.{lettered}
use borrow.Author.Rules.{rules}
use Rattle.rooms_block.proofs.cells.letter.Goals as goal

pub returns : goal.returns
returns c = rw c.letter_by.ensures (lettered _ _ _ _ _ c.look-answer.result c.look-answer.ensures)
