-- Written by tests/written/wide.py from separation, in f64.
-- `separation::end_a` meets its contract, by cases on the kind. Assumes nothing.
use Rattle.separation64.proofs.separation.end_a.Goals as goal

pub returns-in-Points : goal.returns-in-Points
returns-in-Points c = simp (c.in-Points.is, c.point.ensures)

pub returns-in-FaceB : goal.returns-in-FaceB
returns-in-FaceB c = simp (c.in-FaceB.is, c.point-in-FaceB.ensures)
