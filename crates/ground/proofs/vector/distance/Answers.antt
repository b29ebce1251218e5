-- `vector::distance` meets its contract, by what its callees ensure. Assumes nothing.
use Rattle.ground.proofs.vector.distance.Goals as goal

pub returns : goal.returns
returns c = simp (c.length.ensures, c.sub.ensures)
