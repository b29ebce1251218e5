-- `block::all_zero` meets its contract: the bytes passed so far are all zero or not. Assumes nothing.
use Rattle.std.proofs.Common.{◌≡◌, eqb}
use Rattle.model.specs.Block.{all_zero}
use Rattle.block.proofs.all_zero.Given as goal

abbrev pub invariant-loop-x : goal.invariant-loop-x
invariant-loop-x l = eqb l.seen 0 ≡ all_zero l.bytes l.from l.x-index
