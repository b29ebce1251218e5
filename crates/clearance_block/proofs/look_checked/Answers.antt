-- `clearance_block::look_checked` meets its contract, by whether the block passed. Assumes nothing.
use mathlib.Core.Path.{sym, ◌∙◌}
use Rattle.block.proofs.Laws.{good-counts}
use borrow.Author.Rules.{rules}
use Rattle.clearance_block.proofs.look_checked.Goals as goal

pub look_along-requires : goal.look_along-requires
look_along-requires c = good-counts _ _ (sym c.check_block-checked.ensures ∙ c.in-Ok.is)

pub returns-in-Ok : goal.returns-in-Ok
returns-in-Ok c = rw (sym c.check_block-checked.ensures ∙ c.in-Ok.is) c.look_along.ensures

pub returns-in-Err : goal.returns-in-Err
returns-in-Err c = rw (sym c.check_block-checked.ensures ∙ c.in-Err.is) c.refused.ensures
