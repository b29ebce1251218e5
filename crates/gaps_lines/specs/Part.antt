-- A part of the input worked into lent bytes: what there is room for, what is written, and whether it was the last part.
use Rattle.std.specs.Prelude.{ℕ, ◌+◌, ◌/◌, ◌<◌, Bool, true, ◌&&◌, cond, List, [], ◌++◌, eqb, ltb, leb, length}
use Rattle.std.specs.Float.{binary32}
use Rattle.model.specs.Block.{block_size, refused}
use Rattle.model.specs.Blocks.{blocks}
use Rattle.model.specs.Parts.{count_limit}
use Rattle.model.specs.Sheet.{refused_line}
use Rattle.runs.specs.Run.{text_run}
use Rattle.gaps_lines.specs.declared.part.Tally.{Tally}
use Rattle.gaps_lines.specs.Gaps.{longest_line, lines_from, counted, tally_from, total_line}

-- both counts are below n
pub record Below (n : ℕ) (t : Tally) : Type 0 where
  pub blocks : t.blocks < n
  pub refused : t.refused < n

-- 24 blocks: lines of the longest for them, a rest and the totals have room in 64 KiB
abbrev pub part_size : ℕ
part_size = 12288

-- a shorter part is the last one
abbrev pub is_last : List ℕ → Bool
is_last part = ltb (length part) part_size

-- a rest of so many bytes, fewer than a block
abbrev pub rest_line : Tally → ℕ → List ℕ
rest_line t rest = cond (eqb rest 0) [] (refused_line (t.blocks + 1) 0 9)

abbrev pub rest_tally : Tally → ℕ → Tally
rest_tally t rest = cond (eqb rest 0) t (counted t (refused 0 9))

-- room for a line of each block, of a rest and of the totals
abbrev pub fits : ℕ → ℕ → Tally → Bool
fits size room t = leb (size / block_size + 2) (room / longest_line) && ltb t.blocks count_limit && ltb t.refused count_limit

-- what a part adds to the text: its lines, and after the last part the totals
abbrev pub part_text : Tally → List ℕ → Bool → List ℕ
part_text t part last = lines_from binary32 t.blocks (blocks part) ++ cond last (total_line (tally_from binary32 t (blocks part))) []

-- where there is no room nothing is written or counted, and the run is over
module _ (t : Tally) (part : List ℕ) (room : ℕ) where
  abbrev pub text_for : List ℕ
  text_for = cond (fits (length part) room t) (part_text t part (is_last part)) []

  abbrev pub tally_for : Tally
  tally_for = cond (fits (length part) room t) (tally_from binary32 t (blocks part)) t

  abbrev pub last_for : Bool
  last_for = cond (fits (length part) room t) (is_last part) true

-- ---- a run over parts, with that room for each: it ends with the part that was the last
abbrev pub run : ℕ → Tally → List (List ℕ) → List ℕ
run room = text_run (λ t p. tally_for t p room) (λ t p. last_for t p room) (λ t p. text_for t p room)
