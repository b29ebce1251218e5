-- `vector::lerp` meets its contract, by what its callees ensure. Assumes nothing.
use Rattle.ground.proofs.vector.lerp.Goals as goal

pub returns : goal.returns
returns c = simp (c.add.ensures, c.scale-2.ensures, c.scale.ensures)
