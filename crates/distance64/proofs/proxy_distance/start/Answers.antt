-- Written by tests/written/wide.py from distance, in f64.
-- `proxy_distance::start` meets its contract, by its test and what its callees ensure. Assumes nothing.
use mathlib.Core.Path.{sym, ◌∙◌}
use Rattle.model64.specs.Distance.{start_simplex}
use Rattle.distance64.proofs.proxy_distance.start.Goals as goal

pub returns-then-from_cache : goal.returns-then-from_cache
unfolding start_simplex
returns-then-from_cache c = let known = sym c.from_cache.ensures ∙ c.if-from_cache.true in
    record { simplex_value = rw (known, c.cached-v3.ensures, c.cached-v2.ensures, c.cached-v1.ensures); count_value = simp known }

pub returns-else-from_cache : goal.returns-else-from_cache
unfolding start_simplex
returns-else-from_cache c = let known = sym c.from_cache.ensures ∙ c.if-from_cache.false in
    record { simplex_value = rw (known, c.blank-v3.ensures, c.blank-v2.ensures, c.vertex-v1.ensures); count_value = simp known }
