-- `vector::normalize_or_zero` meets its contract, by its test and what its callees ensure. Assumes nothing.
use Rattle.ground.proofs.vector.normalize_or_zero.Goals as goal

pub returns-then-r : goal.returns-then-r
returns-then-r c = simp (c.scale.ensures, ← c.length-r.ensures, c.if-r.true)

pub returns-else-r : goal.returns-else-r
returns-else-r c = simp (← c.length-r.ensures, c.if-r.false)
