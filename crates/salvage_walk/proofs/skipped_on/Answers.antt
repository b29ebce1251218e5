-- `salvage_walk::skipped_on` meets its contract: what can be counted does not wrap. Assumes nothing.
use native.Mathlib.Omega.{arith}
use Rattle.salvage_walk.proofs.Laws.{small}
use Rattle.salvage_walk.proofs.skipped_on.Goals as goal

pub overflow_add-result : goal.overflow_add-result
overflow_add-result c = let few = small c.args.left c.args.walk c.requires in
    omega (arith, few.part, few.run)
