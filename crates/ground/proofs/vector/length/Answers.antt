-- `vector::length` meets its contract, by what its callees ensure. Assumes nothing.
use Rattle.ground.proofs.vector.length.Goals as goal

pub returns : goal.returns
returns c = simp (c.root.ensures.is, c.dot.ensures)
