-- The invariant: taking what is left of the points gives what taking them all gives.
use mathlib.Core.Path.{◌≡◌}
use lib.Ieee.{binary32}
use lib.ListN.{drop}
use Rattle.toi_proxy.proofs.PointLaws.{start, taken_from}
use Rattle.toi_proxy.proofs.point_list.support_points.Given as goal

abbrev pub invariant-loop-i : goal.invariant-loop-i
invariant-loop-i l = taken_from binary32 l.direction l.s l.i (drop l.i l.points) ≡ taken_from binary32 l.direction (start binary32) 0 l.points
