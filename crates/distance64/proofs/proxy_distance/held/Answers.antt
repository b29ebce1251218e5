-- Written by tests/written/wide.py from distance, in f64.
-- `proxy_distance::held` meets its contract: a slot that does not count holds no pair. Assumes nothing.
use Rattle.distance64.proofs.Laws.{held_of}
use Rattle.distance64.proofs.proxy_distance.held.Goals as goal

pub returns : goal.returns
returns c = let a = c.args in
    held_of a.simplex a.index_a a.index_b a.count c.requires
