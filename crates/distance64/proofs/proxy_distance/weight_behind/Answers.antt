-- Written by tests/written/wide.py from distance, in f64.
-- `proxy_distance::weight_behind` meets its contract, by its test. Assumes nothing.
use mathlib.Core.Path.{◌≡◌}
use native.Mathlib.Omega.{arith}
use Rattle.distance64.proofs.proxy_distance.weight_behind.Goals as goal

pub returns-then-kept-eq1 : goal.returns-then-kept-eq1
returns-then-kept-eq1 c = rw c.if-kept-eq1.true

pub returns-else-kept-eq1 : goal.returns-else-kept-eq1
returns-else-kept-eq1 c = let e : c.args.kept ≡ 2 = omega (arith, c.if-kept-eq1.false) in
    rw e
