-- What the entry points for a line and for shapes answer, and what they leave in the lists that they were lent. Those for the sweep and the distance
-- call stand in `entries`.
use Rattle.std.specs.Prelude.{◌≡◌, ℕ, ◌||◌, cond, List, [], ◌++◌, eqb, ltb, length, drop, Float, Result, Ok, Err}
use Rattle.std.specs.Float.{binary32}
use Rattle.model.specs.declared.Pose.{Pose}
use Rattle.model.specs.declared.Refusal.{Refusal}
use Rattle.model.specs.Block.{block_size}
use Rattle.model.specs.Work.{block_answer}
use Rattle.model.specs.Parts.{count_limit}
use Rattle.sheet_lines.specs.Part.{line_for}
use Rattle.list_calls.specs.Entry.{pose_of}

-- ---- one block to one line
-- block n of a file; nothing where the block is not one, no file has the number, or there is no room
abbrev pub line_to : ℕ → List ℕ → List ℕ → List ℕ
line_to n block out =
    cond (eqb (length block) block_size) (cond (eqb n 0 || ltb count_limit n) [] (line_for n (block_answer binary32 block) (length out))) []

-- the line stands at the start of out, and the answer is its length
pub record LineTold (n : ℕ) (block out out' : List ℕ) (r : ℕ) : Type 0 where
  pub size : r ≡ length (line_to n block out)
  pub bytes : out' ≡ line_to n block out ++ drop (length (line_to n block out)) out

-- ---- plates and bars
abbrev pub built_number : Result ℕ Refusal → ℕ
built_number (Ok n) = 32
built_number (Err r) = r.number

-- a placed shape, by what it answers and leaves for a pose: 255, and nothing written, for a pose that has not four numbers
pub record PlacedTold (told : Pose → List Float → Result ℕ Refusal) (left : Pose → List Float → List Float) (ns out out' : List Float) (r : ℕ) : Type 0 where
  pub number : r ≡ cond (eqb (length ns) 4) (built_number (told (pose_of ns) out)) 255
  pub corners : out' ≡ cond (eqb (length ns) 4) (left (pose_of ns) out) out
