-- `proxy_distance::blank` meets its contract, by what `zero` ensures. Assumes nothing.
use Rattle.distance.proofs.proxy_distance.blank.Goals as goal

pub returns : goal.returns
returns c = simp c.zero-o.ensures
