-- Written by tests/written/wide.py from ground, in f64.
-- `rotation::nlerp` meets its contract, by what its callees ensure. Assumes nothing.
use Rattle.ground64.proofs.rotation.nlerp.Goals as goal

pub returns : goal.returns
returns c = simp c.reciprocal_of_root-k.ensures
