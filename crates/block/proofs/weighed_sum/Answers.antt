-- `block::weighed_sum` meets its contract: the sum so far is that of the words passed by their weights, each product below 2^39. Assumes nothing.
use Rattle.std.proofs.Common.{refl, rules}
use Rattle.model.specs.Block.{weighed_words}
use Rattle.block.proofs.Laws.{weighed-step}
use Rattle.block.proofs.weighed_sum.Goals as goal

pub loop-i-init : goal.loop-i-init
unfolding weighed_words
loop-i-init c = (search rules, refl)

pub loop-i-preserved : goal.loop-i-preserved
loop-i-preserved c = (search rules, simp (c.weighed-sum.ensures.0, c.loop-i.invariant.1, c.word.ensures) (weighed-step _ _))
