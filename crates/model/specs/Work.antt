-- From a block to its answer: its floats, the sweep that they ask for, and what the sweep's answer comes to.
use Rattle.std.specs.Prelude.{ℕ, zero, suc, ◌+◌, ◌*◌, List, [], ◌∷◌, Float, Result, Ok, Err}
use Rattle.std.specs.Float.{Format, binary32}
use Rattle.std.specs.Float.Ieee.{of_bits}
use Rattle.model.specs.declared.Vector.{Vector}
use Rattle.model.specs.declared.Rotation.{Rotation}
use Rattle.model.specs.declared.Sweep.{Sweep}
use Rattle.model.specs.declared.Counts.{Counts}
use Rattle.model.specs.declared.Contact.{Contact}
use Rattle.model.specs.declared.Corners.{Corners}
use Rattle.model.specs.declared.SweepAnswer.{SweepAnswer}
use Rattle.model.specs.declared.SweepAnswer.TheVariants as Answered
use Rattle.model.specs.declared.Swept.{Swept}
use Rattle.model.specs.declared.Block.{Block}
use Rattle.model.specs.declared.BlockRefusal.{BlockRefusal}
use Rattle.model.specs.declared.Status.{Status}
use Rattle.model.specs.declared.Status.TheVariants.{Overlapped, Hit, Separated, Failed}
use Rattle.model.specs.declared.Verdict.{Verdict}
use Rattle.model.specs.declared.Refusal.{Refusal}
use Rattle.model.specs.declared.Worked.{Worked}
use Rattle.model.specs.Ground.{rotation, origin}
use Rattle.model.specs.Ground as Ground
use Rattle.model.specs.Wire.{word}
use Rattle.model.specs.Support.{point}
use Rattle.model.specs.SweepToi.{contact}
use Rattle.model.specs.Corners.{sweep}
use Rattle.model.specs.Block.{checked_block, refused}

-- ---- a sweep by 24 numbers, as words 2 to 25 of a block hold them: twelve pairs
abbrev pub turn : Vector → Rotation
turn v = rotation v.x v.y

-- the move of the five pairs from pair i on
unfoldable pub move_at : List Float → ℕ → Sweep
move_at ns i = record {
  local_center = point ns i;
  c1 = point ns (i + 1);
  c2 = point ns (i + 2);
  q1 = turn (point ns (i + 3));
  q2 = turn (point ns (i + 4));
}

-- the radii, the max fraction with the slop, the move of A, the move of B; a number that is missing is NaN
unfoldable pub sweep_for : Format → List Float → List Float → List Float → Swept
sweep_for f a b ns =
    sweep f a (point ns 0).x (move_at ns 2) b (point ns 0).y (move_at ns 7) (point ns 1).x (point ns 1).y

-- ---- the job of a block
-- n floats from place k on
unfoldable pub floats_at : List ℕ → ℕ → ℕ → List Float
floats_at b k zero = []
floats_at b k (suc n) = of_bits binary32 (word b k) ∷ floats_at b (k + 4) n

abbrev pub numbers_of : List ℕ → List Float
numbers_of b = floats_at b 8 24

abbrev pub points_a : List ℕ → Block → List Float
points_a b k = floats_at b 104 (2 * k.count_a)

abbrev pub points_b : List ℕ → Block → List Float
points_b b k = floats_at b 232 (2 * k.count_b)

abbrev pub sweep_of : Format → List ℕ → Block → Swept
sweep_of f b k = sweep_for f (points_a b k) (points_b b k) (numbers_of b)

-- ---- what it comes to
abbrev pub verdict : Status → Contact → Counts → Corners → Verdict
verdict s c n k = record { status = s; contact = c; counts = n; corners = k }

-- each case of the sweep's answer: its status and values, or its number. An overlap has fraction 0, whatever t1 was, and zeros
abbrev pub told_by : Format → Corners → SweepAnswer → Result Verdict Refusal
told_by f k (Answered.Overlapped n) = Ok (verdict Overlapped (contact (Ground.zero f) (origin f) (origin f)) n k)
told_by f k (Answered.Hit c n) = Ok (verdict Hit c n k)
told_by f k (Answered.Separated c n) = Ok (verdict Separated c n k)
told_by f k (Answered.Failed c n) = Ok (verdict Failed c n k)
told_by f k (Answered.Refused number) = Err (record { number = number })

-- with the corners of its last search
abbrev pub told : Format → Swept → Result Verdict Refusal
told f x = told_by f x.corners x.answer

-- of a block: its job with the verdict; or the job and the number of a refusal, whichever of 3 to 11 or 13 it is
abbrev pub BlockAnswer : Type 0
BlockAnswer = Result Worked BlockRefusal

abbrev pub worked : ℕ → Verdict → BlockAnswer
worked job v = Ok (record { job = job; verdict = v })

-- the same as the answer of a block
abbrev pub of_job : ℕ → Result Verdict Refusal → BlockAnswer
of_job job (Ok v) = worked job v
of_job job (Err r) = refused job r.number

abbrev pub answer_by : Format → List ℕ → Result Block BlockRefusal → BlockAnswer
answer_by f b (Ok k) = of_job k.job (told f (sweep_of f b k))
answer_by f b (Err r) = Err r

-- by its 512 bytes alone
unfoldable pub block_answer : Format → List ℕ → BlockAnswer
block_answer f b = answer_by f b (checked_block b)
