-- Written by tests/written/wide.py from separation, in f64.
-- `separation::of_points` meets its contract, by what its callees ensure. Assumes nothing.
use Rattle.separation64.proofs.separation.of_points.Goals as goal

pub returns : goal.returns
returns c =
    simp (
      c.normalize_or_zero-axis.ensures,
      c.sub.ensures,
      c.transform_point-point_b.ensures,
      c.point-2.ensures,
      c.transform_point-point_a.ensures,
      c.point.ensures,
    )
