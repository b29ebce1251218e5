-- One moment of planned moves: the pose of a body there, and how far apart two outlines are.
use Rattle.std.specs.Prelude.{ℕ, zero, suc, false, List, Float, Result, Ok, Err}
use Rattle.std.specs.Float.{Format}
use Rattle.model.specs.declared.Sweep.{Sweep}
use Rattle.model.specs.declared.Refusal.{Refusal}
use Rattle.model.specs.declared.Pose.{Pose}
use Rattle.model.specs.Ground.{inverse_times}
use Rattle.model.specs.Ground as Ground
use Rattle.model.specs.Domain.{pair_refusal, sweeps_refusal, fraction_refusal, or_else, numbered}
use Rattle.model.specs.Distance.{measure}
use Rattle.model.specs.Sweep.{transform_at, shifted}
use Rattle.model.specs.SweepToi.{sweep_pair, no_corners}

-- ---- the pose of one move at t
module _ (f : Format) (planned : Sweep) (t : Float) where
  -- the move's own, then that of the fraction
  abbrev pub pose_refusal : ℕ
  pose_refusal = or_else (sweeps_refusal f planned planned) (fraction_refusal f t)

  abbrev pub pose_by : ℕ → Result Pose Refusal
  pose_by zero = Ok (transform_at f planned t)
  pose_by (suc n) = Err (numbered (suc n))

  unfoldable pub pose_at : Result Pose Refusal
  pose_at = pose_by pose_refusal

-- ---- the gap of two outlines at t
module _ (f : Format) (outline_a : List Float) (wa : Sweep) (outline_b : List Float) (wb : Sweep) (t : Float) where
  -- both moves seen from A's first centre, and a distance without radii that starts from no corners
  unfoldable pub gap : Float
  gap =
      let pose = inverse_times f (transform_at f (shifted f wa wa.c1) t) (transform_at f (shifted f wb wa.c1) t) in
      (measure f pose outline_a (Ground.zero f) outline_b (Ground.zero f) false sweep_pair no_corners).output.distance

  -- no radius is refused: none is given
  abbrev pub gap_refusal : ℕ
  gap_refusal = or_else (pair_refusal f outline_a outline_b (Ground.zero f) (Ground.zero f)) (or_else (sweeps_refusal f wa wb) (fraction_refusal f t))

  abbrev pub gap_by : ℕ → Result Float Refusal
  gap_by zero = Ok gap
  gap_by (suc n) = Err (numbered (suc n))

  unfoldable pub gap_at : Result Float Refusal
  gap_at = gap_by gap_refusal
