-- Written by tests/written/wide.py from separation, in f64.
-- `separation::middle` meets its contract, by what its callees ensure. Assumes nothing.
use Rattle.separation64.proofs.separation.middle.Goals as goal

pub returns : goal.returns
returns c = simp (c.scale.ensures, c.add.ensures)
