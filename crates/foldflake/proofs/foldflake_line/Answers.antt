-- `foldflake::foldflake_line` meets its contract: nothing for what is no block or no number, else the line of its answer. Assumes nothing.
use Rattle.foldflake.proofs.Line.{not-a-block, not-a-number, one_line}
use borrow.Author.Rules.{rules}
use Rattle.foldflake.proofs.foldflake_line.Goals as goal

pub returns-then-block-ne512 : goal.returns-then-block-ne512
returns-then-block-ne512 c = let a = c.args in
    not-a-block a.number a.block.now a.out.now c.if-block-ne512.true

pub returns-then-number : goal.returns-then-number
returns-then-number c = let a = c.args in
    not-a-number a.number a.block.now a.out.now c.if-block-ne512.false c.if-number.true

pub returns : goal.returns
returns c = let a = c.args in
    one_line a.number a.block.now a.out.now _ _ c.if-block-ne512.false
    c.if-number.false
    (rw c.answer_block-answer.ensures at c.write_line.ensures)
