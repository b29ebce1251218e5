-- What the entry points for one moment of a move answer, and what they leave in the list that they were lent: 255, and nothing written, for a list of
-- the wrong length.
use Rattle.std.specs.Prelude.{◌≡◌, ℕ, Bool, ◌&&◌, cond, List, [], ◌∷◌, eqb, length, Float, Result, Ok, Err}
use Rattle.std.specs.Float.{binary32}
use Rattle.model.specs.declared.Pose.{Pose}
use Rattle.model.specs.declared.Refusal.{Refusal}
use Rattle.model.specs.Work.{move_at}
use Rattle.at_fraction.specs.Moment.{pose_at, gap_at}

-- ---- the pose
abbrev pub pose_floats : Pose → List Float
pose_floats p = p.rotation.c ∷ p.rotation.s ∷ p.translation.x ∷ p.translation.y ∷ []

abbrev pub pose_number : Result Pose Refusal → ℕ
pose_number (Ok p) = 32
pose_number (Err r) = r.number

-- a refusal leaves the list
abbrev pub pose_after : Result Pose Refusal → List Float → List Float
pose_after (Ok p) out = pose_floats p
pose_after (Err r) out = out

abbrev pub pose_fits : List Float → List Float → Bool
pose_fits ns out = eqb (length ns) 10 && eqb (length out) 4

abbrev pub pose_call : List Float → Float → Result Pose Refusal
pose_call ns t = pose_at binary32 (move_at ns 0) t

pub record PoseTold (ns : List Float) (t : Float) (out out' : List Float) (r : ℕ) : Type 0 where
  pub number : r ≡ cond (pose_fits ns out) (pose_number (pose_call ns t)) 255
  pub posed : out' ≡ cond (pose_fits ns out) (pose_after (pose_call ns t) out) out

-- ---- the gap
abbrev pub gap_number : Result Float Refusal → ℕ
gap_number (Ok d) = 32
gap_number (Err r) = r.number

abbrev pub gap_after : Result Float Refusal → List Float → List Float
gap_after (Ok d) out = d ∷ []
gap_after (Err r) out = out

abbrev pub gap_fits : List Float → List Float → List Float → Bool
gap_fits na nb out = eqb (length na) 10 && eqb (length nb) 10 && eqb (length out) 1

abbrev pub gap_call : List Float → List Float → List Float → List Float → Float → Result Float Refusal
gap_call a na b nb t = gap_at binary32 a (move_at na 0) b (move_at nb 0) t

pub record GapTold (a na b nb : List Float) (t : Float) (out out' : List Float) (r : ℕ) : Type 0 where
  pub number : r ≡ cond (gap_fits na nb out) (gap_number (gap_call a na b nb t)) 255
  pub apart : out' ≡ cond (gap_fits na nb out) (gap_after (gap_call a na b nb t) out) out
