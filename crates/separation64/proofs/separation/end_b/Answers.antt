-- Written by tests/written/wide.py from separation, in f64.
-- `separation::end_b` meets its contract, by cases on the kind. Assumes nothing.
use Rattle.separation64.proofs.separation.end_b.Goals as goal

pub returns-in-Points : goal.returns-in-Points
returns-in-Points c = simp (c.in-Points.is, c.point.ensures)

pub returns-in-FaceA : goal.returns-in-FaceA
returns-in-FaceA c = simp (c.in-FaceA.is, c.point-in-FaceA.ensures)
