-- `separation::middle` meets its contract, by what its callees ensure. Assumes nothing.
use Rattle.separation.proofs.separation.middle.Goals as goal

pub returns : goal.returns
returns c = simp (c.scale.ensures, c.add.ensures)
