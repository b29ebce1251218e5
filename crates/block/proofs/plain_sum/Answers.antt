-- `block::plain_sum` meets its contract: the sum so far is that of the words passed, modulo 2^32. Assumes nothing.
use Rattle.std.proofs.Common.{refl}
use Rattle.model.specs.Block.{sum_of_words}
use Rattle.block.proofs.Laws.{wrapped-step}
use Rattle.block.proofs.plain_sum.Goals as goal

pub loop-i-init : goal.loop-i-init
unfolding sum_of_words
loop-i-init c = refl

pub loop-i-preserved : goal.loop-i-preserved
loop-i-preserved c = simp (c.loop-i.invariant, c.word-sum.ensures) (wrapped-step _ _)
