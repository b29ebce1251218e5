-- Written by tests/written/wide.py from distance, in f64.
-- `proxy_distance::grown` meets its contract: one of its two places is the one behind what is kept. Assumes nothing.
use mathlib.Core.Path.{◌≡◌}
use native.Mathlib.Omega.{arith}
use Rattle.distance64.proofs.proxy_distance.grown.Goals as goal

pub returns-then-kept-eq1 : goal.returns-then-kept-eq1
returns-then-kept-eq1 c = rw (c.vertex-new.ensures, c.weight_behind-a.ensures, c.if-kept-eq1.true)

pub returns-else-kept-eq1 : goal.returns-else-kept-eq1
returns-else-kept-eq1 c = let two : c.args.kept ≡ 2 = omega (arith, c.if-kept-eq1.false) in
    rw (c.vertex-new.ensures, c.weight_behind-a.ensures, two)
