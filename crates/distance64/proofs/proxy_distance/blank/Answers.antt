-- Written by tests/written/wide.py from distance, in f64.
-- `proxy_distance::blank` meets its contract, by what `zero` ensures. Assumes nothing.
use Rattle.distance64.proofs.proxy_distance.blank.Goals as goal

pub returns : goal.returns
returns c = simp c.zero-o.ensures
