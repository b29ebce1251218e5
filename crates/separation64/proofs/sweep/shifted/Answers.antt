-- Written by tests/written/wide.py from separation, in f64.
-- `sweep::shifted` meets its contract, by what its callees ensure. Assumes nothing.
use Rattle.model64.specs.Sweep.{shifted}
use Rattle.separation64.proofs.sweep.shifted.Goals as goal

pub returns : goal.returns
unfolding shifted
returns c = simp (c.sub-c2.ensures, c.sub-c1.ensures)
