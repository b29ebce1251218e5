-- Written by tests/written/wide.py from distance, in f64.
-- `proxy_distance::vertex` meets its contract, by what its callees ensure. Assumes nothing.
use Rattle.model64.specs.Distance.{vertex}
use Rattle.distance64.proofs.proxy_distance.vertex.Goals as goal

pub returns : goal.returns
unfolding vertex
returns c = simp (c.sub-w.ensures, c.transform_point-wb.ensures, c.point.ensures, c.point-wa.ensures)
