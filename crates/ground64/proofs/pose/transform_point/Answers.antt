-- Written by tests/written/wide.py from ground, in f64.
-- `pose::transform_point` meets its contract, by what its callees ensure. Assumes nothing.
use Rattle.ground64.proofs.pose.transform_point.Goals as goal

pub returns : goal.returns
returns c = simp (c.add.ensures, c.rotate_vec.ensures)
