-- `block::plain_sum` meets its contract: the sum so far is that of the words passed, modulo 2^32. Assumes nothing.
use Rattle.std.proofs.Common.{◌≡◌, ◌%◌, ◌^◌}
use Rattle.model.specs.Block.{sum_of_words}
use Rattle.block.proofs.plain_sum.Given as goal

abbrev pub invariant-loop-i : goal.invariant-loop-i
invariant-loop-i l = l.sum ≡ sum_of_words l.bytes l.i % 2 ^ 32
