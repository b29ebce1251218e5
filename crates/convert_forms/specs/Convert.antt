-- A batch converted: its blocks one by one, each in the other form or, where it is refused, told by its number.
use Rattle.std.specs.Prelude.{ℕ, ◌+◌, ◌/◌, Bool, true, cond, ◌&&◌, List, [], ◌∷◌, ◌++◌, leb, ltb, length}
use Rattle.model.specs.Block.{block_size, checked_block}
use Rattle.model.specs.Blocks.{whole_blocks, blocks, is_good, passes}
use Rattle.model.specs.Parts.{count_limit, is_last}
use Rattle.runs.specs.Run.{text_run}
use Rattle.text.specs.Put.{number}
use Rattle.convert_forms.specs.Forms.{other_form}

-- ---- all blocks of a list, with n before
unfoldable pub converted : List (List ℕ) → List ℕ
converted [] = []
converted (x ∷ xs) = cond (passes x) (other_form x) [] ++ converted xs

unfoldable pub told_from : ℕ → List (List ℕ) → List ℕ
told_from n [] = []
told_from n (x ∷ xs) = cond (passes x) [] (number (n + 1) 10) ++ told_from (n + 1) xs

-- what 512 bytes add to either, with n blocks before
abbrev pub file_by : List ℕ → List ℕ
file_by x = cond (is_good (checked_block x)) (other_form x) []

abbrev pub text_by : ℕ → List ℕ → List ℕ
text_by n x = cond (is_good (checked_block x)) [] (number (n + 1) 10)

abbrev pub whole_of : List ℕ → List (List ℕ)
whole_of part = whole_blocks (length part / block_size) part

-- ---- a part of the input, with room for what it may come to
-- a number of at most 20 digits and a newline for each block, and for a rest
abbrev pub fits : ℕ → ℕ → ℕ → ℕ → Bool
fits size room text_room before = leb size room && leb (size / block_size + 1) (text_room / 21) && ltb before count_limit

-- where there is no room nothing is written or counted, and the run is over
module _ (before : ℕ) (part : List ℕ) (room text_room : ℕ) where
  abbrev pub file_for : List ℕ
  file_for = cond (fits (length part) room text_room before) (converted (blocks part)) []

  abbrev pub text_for : List ℕ
  text_for = cond (fits (length part) room text_room before) (told_from before (blocks part)) []

  abbrev pub count_for : ℕ
  count_for = cond (fits (length part) room text_room before) (before + length (blocks part)) before

  abbrev pub last_for : Bool
  last_for = cond (fits (length part) room text_room before) (is_last part) true

-- ---- a run over parts, with that room for each: blocks are counted on, and it ends with the part that was the last
module _ (room text_room : ℕ) where
  abbrev pub next_count : ℕ → List ℕ → ℕ
  next_count before part = count_for before part room text_room

  abbrev pub is_over : ℕ → List ℕ → Bool
  is_over before part = last_for before part room text_room

  -- what goes to the file, and what is told
  abbrev pub file_of : ℕ → List (List ℕ) → List ℕ
  file_of = text_run next_count is_over (λ before part. file_for before part room text_room)

  abbrev pub text_of : ℕ → List (List ℕ) → List ℕ
  text_of = text_run next_count is_over (λ before part. text_for before part room text_room)
