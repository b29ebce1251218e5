-- Blocks to lines: what each block adds to both texts.
use Rattle.std.specs.Prelude.{ℕ, ◌+◌, ◌/◌, ◌%◌, Bool, cond, List, [], ◌∷◌, ◌++◌, eqb, ltb, length, Result, Ok, Err}
use Rattle.model.specs.declared.Block.{Block}
use Rattle.model.specs.declared.BlockRefusal.{BlockRefusal}
use Rattle.model.specs.Block.{block_size}
use Rattle.model.specs.Blocks.{whole_blocks, blocks}
use Rattle.runs.specs.Run.{text_run}
use Rattle.job_text.specs.Job.{longest_line, plain_block, job_line}
use Rattle.job_text.specs.Room.{refusal, told_for, used_of}

abbrev pub line_or : List ℕ → Result Block BlockRefusal → List ℕ
line_or b (Ok k) = job_line b
line_or b (Err r) = []

abbrev pub refusal_or : ℕ → Result Block BlockRefusal → List ℕ
refusal_or n (Ok k) = []
refusal_or n (Err r) = refusal n r.number

-- a block's line, and as block n its refusal
unfoldable pub unpacked : List ℕ → List ℕ
unpacked b = line_or b (plain_block b)

unfoldable pub refused : ℕ → List ℕ → List ℕ
refused n b = refusal_or n (plain_block b)

-- of a file's block; one that is short is refused by 9
abbrev pub line_by : List ℕ → List ℕ
line_by x = cond (eqb (length x) block_size) (unpacked x) []

abbrev pub refusal_by : ℕ → List ℕ → List ℕ
refusal_by n x = cond (eqb (length x) block_size) (refused n x) (refusal n 9)

-- ---- all blocks of a list, with so many before them
unfoldable pub lines_of : List (List ℕ) → List ℕ
lines_of [] = []
lines_of (x ∷ xs) = line_by x ++ lines_of xs

unfoldable pub refusals_of : ℕ → List (List ℕ) → List ℕ
refusals_of n [] = []
refusals_of n (x ∷ xs) = refusal_by (n + 1) x ++ refusals_of (n + 1) xs

-- ---- a part of the input, with room for what it may come to
abbrev pub used_blocks : ℕ → List ℕ → ℕ → ℕ → ℕ
used_blocks before part room err_room = used_of (length part / block_size) (room / longest_line) err_room before

abbrev pub blocks_in : ℕ → List ℕ → ℕ → ℕ → List (List ℕ)
blocks_in before part room err_room = whole_blocks (used_blocks before part room err_room) part

-- after the last part: a rest of fewer bytes than a block is refused by 9
abbrev pub rest_for : ℕ → ℕ → ℕ → List ℕ
rest_for rest before room = cond (eqb rest 0) [] (told_for before 9 room)

-- ---- a whole file
abbrev pub unpack_out : List ℕ → List ℕ
unpack_out b = lines_of (blocks b)

abbrev pub unpack_told : List ℕ → List ℕ
unpack_told b = refusals_of 0 (blocks b)

-- ---- a run over parts of such a length, with such rooms for what each comes to: a shorter part is the last one
module _ (size room err_room : ℕ) where
  abbrev pub next_count : ℕ → List ℕ → ℕ
  next_count before part = before + used_blocks before part room err_room

  abbrev pub is_last : ℕ → List ℕ → Bool
  is_last before part = ltb (length part) size

  abbrev pub write_by : ℕ → List ℕ → List ℕ
  write_by before part = lines_of (blocks_in before part room err_room)

  abbrev pub tell_by : ℕ → List ℕ → List ℕ
  tell_by before part =
      refusals_of before (blocks_in before part room err_room)
      ++ cond (is_last before part) (rest_for (length part % block_size) (next_count before part) err_room) []

  abbrev pub out_by : ℕ → List (List ℕ) → List ℕ
  out_by = text_run next_count is_last write_by

  abbrev pub told_by : ℕ → List (List ℕ) → List ℕ
  told_by = text_run next_count is_last tell_by
