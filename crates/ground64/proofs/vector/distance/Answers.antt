-- Written by tests/written/wide.py from ground, in f64.
-- `vector::distance` meets its contract, by what its callees ensure. Assumes nothing.
use Rattle.ground64.proofs.vector.distance.Goals as goal

pub returns : goal.returns
returns c = simp (c.length.ensures, c.sub.ensures)
