-- Written by tests/written/wide.py from distance, in f64.
-- `proxy_distance::from_cache` meets its contract, by what `cache_is_valid` ensures. Assumes nothing.
use Rattle.distance64.proofs.proxy_distance.from_cache.Goals as goal

pub returns : goal.returns
returns c = simp c.cache_is_valid.ensures
