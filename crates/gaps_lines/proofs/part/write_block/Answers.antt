-- `gaps_lines::part::write_block` meets its contract: the two cases are those of the block's answer. Assumes nothing.
use mathlib.Core.Path.{refl, sym, ◌∙◌}
use Rattle.gaps_lines.proofs.Parts.{worked-counts}
use Rattle.gaps_lines.proofs.part.write_block.Goals as goal

pub put_worked-requires : goal.put_worked-requires
put_worked-requires c = let worked = worked-counts _ (sym c.answer_block-answer.ensures ∙ c.in-Ok.is) in
    (c.requires.0, worked.0, worked.1)

pub returns-in-Ok : goal.returns-in-Ok
returns-in-Ok c = rw (sym c.answer_block-answer.ensures ∙ c.in-Ok.is) (record { line = c.put_worked.ensures; tally_value = refl })

pub returns-in-Err : goal.returns-in-Err
returns-in-Err c = rw (sym c.answer_block-answer.ensures ∙ c.in-Err.is)
    (record { line = c.write_refused.ensures.line; tally_value = c.write_refused.ensures.tally_value })
