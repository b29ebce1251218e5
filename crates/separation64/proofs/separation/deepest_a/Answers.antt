-- Written by tests/written/wide.py from separation, in f64.
-- `separation::deepest_a` meets its contract, by cases on the kind and what its callees ensure. Assumes nothing.
use Rattle.separation64.proofs.separation.deepest_a.Goals as goal

pub returns-in-Points : goal.returns-in-Points
returns-in-Points c = simp (c.in-Points.is, c.support_pair.ensures, c.inv_rotate_vec.ensures)

pub returns-in-FaceA : goal.returns-in-FaceA
returns-in-FaceA c = simp (c.in-FaceA.is, c.no_corner.ensures)

pub returns-in-FaceB : goal.returns-in-FaceB
returns-in-FaceB c =
    simp (
      c.in-FaceB.is,
      c.support_pair-in-FaceB.ensures,
      c.inv_rotate_vec-in-FaceB.ensures,
      c.neg-axis.ensures,
      c.rotate_vec.ensures,
    )
