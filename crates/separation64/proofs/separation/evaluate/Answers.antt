-- Written by tests/written/wide.py from separation, in f64.
-- `separation::evaluate` meets its contract, by cases on the kind and what its callees ensure. Assumes nothing.
use Rattle.separation64.proofs.separation.evaluate.Goals as goal

pub returns-in-Points : goal.returns-in-Points
returns-in-Points c =
    simp (c.in-Points.is, c.dot.ensures, c.sub.ensures, c.transform_point-point_b.ensures, c.transform_point-point_a.ensures)

pub returns-in-FaceA : goal.returns-in-FaceA
returns-in-FaceA c =
    simp (
      c.in-FaceA.is,
      c.dot-in-FaceA.ensures,
      c.rotate_vec.ensures,
      c.sub-in-FaceA.ensures,
      c.transform_point-point_b.ensures,
      c.transform_point-point_a.ensures,
    )

pub returns-in-FaceB : goal.returns-in-FaceB
returns-in-FaceB c =
    simp (
      c.in-FaceB.is,
      c.dot-in-FaceB.ensures,
      c.rotate_vec-in-FaceB.ensures,
      c.sub-in-FaceB.ensures,
      c.transform_point-point_b.ensures,
      c.transform_point-point_a.ensures,
    )
