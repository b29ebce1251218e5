-- `block_floats::floats_at` meets its contract: the floats so far stand at the start. Assumes nothing.
use Rattle.std.proofs.Common.{◌≡◌, length, take}
use Rattle.model.specs.Work.{floats_at}
use Rattle.block_floats.proofs.floats_at.Given as goal

abbrev pub invariant-loop-i : goal.invariant-loop-i
invariant-loop-i l = (length l.floats ≡ 32) × (take l.i l.floats ≡ floats_at l.part l.from l.i)
