-- Written by tests/written/wide.py from toi_proxy, in f64.
-- The invariant: taking what is left of the points gives what taking them all gives.
use mathlib.Core.Path.{◌≡◌}
use lib.Ieee.{binary64}
use lib.ListN.{drop}
use Rattle.toi_proxy64.proofs.PointLaws.{start, taken_from}
use Rattle.toi_proxy64.proofs.point_list.support_points.Given as goal

abbrev pub invariant-loop-i : goal.invariant-loop-i
invariant-loop-i l = taken_from binary64 l.direction l.s l.i (drop l.i l.points) ≡ taken_from binary64 l.direction (start binary64) 0 l.points
