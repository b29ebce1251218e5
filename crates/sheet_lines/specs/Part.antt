-- A part of the input worked into lent bytes: what there is room for, what is written, and whether it was the last part.
use Rattle.std.specs.Prelude.{ℕ, ◌+◌, ◌/◌, ◌<◌, Bool, true, ◌&&◌, cond, List, [], ltb, leb, length}
use Rattle.std.specs.Float.{binary32}
use Rattle.model.specs.declared.Totals.{Totals}
use Rattle.model.specs.Block.{block_size}
use Rattle.model.specs.Parts.{count_limit, is_last}
use Rattle.model.specs.Sheet.{answers, answer_line, totals_from, part_text}
use Rattle.model.specs.Work.{BlockAnswer}
use Rattle.runs.specs.Run.{text_run}

-- no line is longer: nine numbers of up to 20 digits and a byte after each (block, job, three counts, four corners), five floats of eight and a blank,
-- and the 0 and the status with theirs: 238
abbrev pub longest_line : ℕ
longest_line = 240

-- ---- one answer
abbrev pub line_for : ℕ → BlockAnswer → ℕ → List ℕ
line_for n x room = cond (ltb room longest_line) [] (answer_line binary32 n x)

-- ---- a part
-- every total is below n
pub record Below (n : ℕ) (t : Totals) : Type 0 where
  pub blocks : t.blocks < n
  pub clear : t.clear < n
  pub contact : t.contact < n
  pub undecided : t.undecided < n
  pub refused : t.refused < n

abbrev pub countable : Totals → Bool
countable t =
    ltb t.blocks count_limit && ltb t.clear count_limit && ltb t.contact count_limit && ltb t.undecided count_limit
    && ltb t.refused count_limit

-- room for a line of each block, of a rest and of the totals
abbrev pub fits : ℕ → ℕ → Totals → Bool
fits size room t = leb (size / block_size + 2) (room / longest_line) && countable t

-- where there is no room nothing is written or counted, and the run is over
module _ (t : Totals) (part : List ℕ) (room : ℕ) where
  abbrev pub text_for : List ℕ
  text_for = cond (fits (length part) room t) (part_text binary32 t part (is_last part)) []

  abbrev pub totals_for : Totals
  totals_for = cond (fits (length part) room t) (totals_from t (answers binary32 part)) t

  abbrev pub last_for : Bool
  last_for = cond (fits (length part) room t) (is_last part) true

-- ---- a run over parts, with that room for each: it ends with the part that was the last
abbrev pub run : ℕ → Totals → List (List ℕ) → List ℕ
run room = text_run (λ t p. totals_for t p room) (λ t p. last_for t p room) (λ t p. text_for t p room)
