-- Written by tests/written/wide.py from ground, in f64.
-- `vector::length` meets its contract, by what its callees ensure. Assumes nothing.
use Rattle.ground64.proofs.vector.length.Goals as goal

pub returns : goal.returns
returns c = simp (c.root.ensures.is, c.dot.ensures)
