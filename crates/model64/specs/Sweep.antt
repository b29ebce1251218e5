-- Written by tests/written/wide.py from model, in f64.
-- Moves: the pose at a time, and the move seen from another origin.
use Rattle.std.specs.Prelude.{Float}
use Rattle.std.specs.Float.{Format}
use Rattle.model64.specs.declared.Vector.{Vector}
use Rattle.model64.specs.declared.Rotation.{Rotation}
use Rattle.model64.specs.declared.Pose.{Pose}
use Rattle.model64.specs.declared.Sweep.{Sweep}
use Rattle.model64.specs.Ground.{pose, minus, lerp, rotate, nlerp}

-- the centre on its way, less the turned local centre
abbrev pub pose_by : Format → Sweep → Float → Rotation → Pose
pose_by f w t q = pose q (minus f (lerp f w.c1 w.c2 t) (rotate f q w.local_center))

unfoldable pub transform_at : Format → Sweep → Float → Pose
transform_at f w t = pose_by f w t (nlerp f w.q1 w.q2 t)

unfoldable pub shifted : Format → Sweep → Vector → Sweep
shifted f w o = record { local_center = w.local_center; c1 = minus f w.c1 o; c2 = minus f w.c2 o; q1 = w.q1; q2 = w.q2 }
