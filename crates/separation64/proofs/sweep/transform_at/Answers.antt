-- Written by tests/written/wide.py from separation, in f64.
-- `sweep::transform_at` meets its contract, by what its callees ensure. Assumes nothing.
use Rattle.model64.specs.Sweep.{transform_at}
use Rattle.separation64.proofs.sweep.transform_at.Goals as goal

pub returns : goal.returns
unfolding transform_at
returns c = simp (c.sub-translation.ensures, c.rotate_vec.ensures, c.lerp.ensures, c.nlerp-rotation.ensures)
