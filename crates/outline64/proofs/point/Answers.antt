-- Written by tests/written/wide.py from outline, in f64.
-- `point` meets its contract, by what its callees ensure. Assumes nothing.
use Rattle.outline64.proofs.point.Goals as goal

pub returns : goal.returns
returns c = simp (c.part-y.ensures, c.part-x.ensures, c.wide-k.ensures)
