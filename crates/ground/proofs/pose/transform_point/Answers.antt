-- `pose::transform_point` meets its contract, by what its callees ensure. Assumes nothing.
use Rattle.ground.proofs.pose.transform_point.Goals as goal

pub returns : goal.returns
returns c = simp (c.add.ensures, c.rotate_vec.ensures)
