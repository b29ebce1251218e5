-- Written by tests/written/wide.py from ground, in f64.
-- `pose::inv_mul` meets its contract, by what its callees ensure. Assumes nothing.
use Rattle.ground64.proofs.pose.inv_mul.Goals as goal

pub returns : goal.returns
returns c = simp (c.inv_rotate_vec-translation.ensures, c.sub.ensures)
