-- Written by tests/written/wide.py from separation, in f64.
-- `separation::of_face_b` meets its contract, by what its callees ensure. Assumes nothing.
use Rattle.separation64.proofs.separation.of_face_b.Goals as goal

pub returns : goal.returns
returns c =
    simp (
      c.toward-axis.ensures,
      c.across.ensures,
      c.transform_point-point_a.ensures,
      c.point.ensures,
      c.middle-local_point.ensures,
      c.point-local_point2.ensures,
      c.point-local_point1.ensures,
    )
