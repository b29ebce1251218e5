-- `work::answer_block` meets its contract: the two cases are those of the definition. Assumes nothing.
use mathlib.Core.Path.{sym, ◌∙◌}
use Rattle.model.specs.Work.{block_answer}
use Rattle.block.proofs.Laws.{good-counts}
use Rattle.work.proofs.answer_block.Goals as goal

pub returns-in_default : goal.returns-in_default
unfolding block_answer
returns-in_default c = simp (c.refusal.ensures, sym c.check_block-checked.ensures, c.in_default.is)

pub work_block-swept-requires : goal.work_block-swept-requires
work_block-swept-requires c = good-counts _ _ (sym c.check_block-checked.ensures ∙ c.in-Ok.is)

pub returns : goal.returns
unfolding block_answer
returns c = simp (
  c.of_job.ensures,
  c.told.ensures,
  sym c.check_block-checked.ensures ∙ c.in-Ok.is,
  c.work_block-swept.ensures,
)
