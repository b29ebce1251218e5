-- `block_floats::floats_at` meets its contract: the floats so far stand at the start. Assumes nothing.
use borrow.Author.Rules.{rules}
use mathlib.Core.Path.{refl, ap, ◌∙◌}
use lib.Ieee.{binary32, of_bits}
use Rattle.model.specs.Work.{floats_at}
use Rattle.block_floats.proofs.Laws.{floats-set}
use Rattle.block_floats.proofs.floats_at.Goals as goal

pub loop-i-init : goal.loop-i-init
unfolding floats_at
loop-i-init c = (refl, refl)

pub loop-i-preserved : goal.loop-i-preserved
loop-i-preserved c = (
  search rules,
  floats-set _ _ _ _ _ (search rules) c.loop-i.invariant.1 (c.from_bits.ensures ∙ ap (of_bits binary32) c.word.ensures),
)
