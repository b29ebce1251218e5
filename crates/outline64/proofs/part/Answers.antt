-- Written by tests/written/wide.py from outline, in f64.
-- `part` meets its contract: past the end a list reads as NaN, which 0 / 0 is. Assumes nothing.
use mathlib.Core.Path.{sym}
use lib.Ieee.{nan, div, of_bits}
use lib.ListN.{get_or-eq_default}
use Rattle.outline64.proofs.part.Goals as goal

pub returns-else-k-points : goal.returns-else-k-points
unfolding div of_bits
returns-else-k-points c = sym (get_or-eq_default c.args.points.now nan c.if-k-points.false)
