-- Written by tests/written/wide.py from list_calls, in f64.
-- `list_calls::numbers::distance_of` meets its contract, by what its callees ensure. Assumes nothing.
use Rattle.list_calls64.specs.Entry.{distance_for}
use Rattle.list_calls64.proofs.numbers.distance_of.Goals as goal

pub returns : goal.returns
unfolding distance_for
returns c = rw (c.proxy_distance.ensures, c.point-radii.ensures, c.pose_of-pose.ensures)
