-- `rooms_block::block_rooms` meets its contract, by whether the block has all its bytes. Assumes nothing.
use borrow.Author.Tests.{eq-eqb, ne_eqb}
use Rattle.rooms_block.specs.Answer.{AnswerOf}
use borrow.Author.Rules.{rules}
use Rattle.rooms_block.proofs.block_rooms.Goals as goal

pub returns-then-part-ne512 : goal.returns-then-part-ne512
unfolding AnswerOf
returns-then-part-ne512 c = rw (ne_eqb _ _ c.if-part-ne512.true)

pub returns : goal.returns
unfolding AnswerOf
returns c = rw (eq-eqb _ _ c.if-part-ne512.false) c.rooms_checked.ensures
