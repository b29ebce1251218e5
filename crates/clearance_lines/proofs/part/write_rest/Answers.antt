-- `clearance_lines::part::write_rest` meets its contract, by whether bytes are left over. Assumes nothing.
use Rattle.clearance_lines.proofs.Parts.{no-rest, rest-worked}
use Rattle.clearance_lines.proofs.part.write_rest.Goals as goal

pub returns-then-part-eq0 : goal.returns-then-part-eq0
returns-then-part-eq0 c = no-rest _ _ _ c.args.part.now c.if-part-eq0.true

pub returns : goal.returns
returns c = let w = c.write_answer.ensures in
    rest-worked c.args.part.now c.clear_block-answer.result c.if-part-eq0.false c.clear_block-answer.ensures w.line w.totals_value
