-- `block::weighed_sum` meets its contract: the sum so far is that of the words passed by their weights, each product below 2^39. Assumes nothing.
use Rattle.std.proofs.Common.{◌≡◌, ◌*◌, ◌≤◌}
use Rattle.model.specs.Block.{weighed_words}
use Rattle.block.proofs.weighed_sum.Given as goal

abbrev pub invariant-loop-i : goal.invariant-loop-i
invariant-loop-i l = (l.sum ≤ 549755813888 * l.i) × (l.sum ≡ weighed_words l.bytes l.i)
