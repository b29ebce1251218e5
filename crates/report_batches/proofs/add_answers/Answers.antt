-- `report_batches::add_answers` meets its contract: the whole blocks, and then a rest. Assumes nothing.
use mathlib.Core.Path.{◌∙◌}
use Rattle.report_batches.proofs.Laws.{blocks-and-rest}
use borrow.Author.Rules.{rules}
use Rattle.report_batches.proofs.add_answers.Goals as goal

pub returns : goal.returns
returns c = let a = c.args in
    let blocks = c.add_blocks-blocks in
    c.add_rest.ensures ∙ blocks-and-rest a.r blocks.result a.part.now blocks.ensures
