-- `proxy_distance::vertex` meets its contract, by what its callees ensure. Assumes nothing.
use Rattle.model.specs.Distance.{vertex}
use Rattle.distance.proofs.proxy_distance.vertex.Goals as goal

pub returns : goal.returns
unfolding vertex
returns c = simp (c.sub-w.ensures, c.transform_point-wb.ensures, c.point.ensures, c.point-wa.ensures)
