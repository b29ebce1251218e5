-- `rooms_lines::part::write_rest` meets its contract, by whether bytes are left over. Assumes nothing.
use borrow.Author.Rules.{rules}
use Rattle.rooms_block.proofs.Laws.{letters-told}
use Rattle.rooms_lines.proofs.Parts.{no-rest, rest-worked}
use Rattle.rooms_lines.proofs.part.write_rest.Goals as goal

pub returns-then-part-eq0 : goal.returns-then-part-eq0
returns-then-part-eq0 c = no-rest _ _ _ c.args.part.now c.if-part-eq0.true

pub write_answer-requires : goal.write_answer-requires
write_answer-requires c = (search rules, search rules, letters-told _ _ c.block_rooms-answer.ensures)

pub returns : goal.returns
returns c = let w = c.write_answer.ensures in
    rest-worked c.args.part.now c.block_rooms-answer.result c.if-part-eq0.false c.block_rooms-answer.ensures w.line w.totals_value
