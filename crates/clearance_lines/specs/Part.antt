-- A part of the input worked into lent bytes: the answers that came for its blocks, what is written of them, and whether it was the last part.
use Rattle.std.specs.Prelude.{◌≡◌, ℕ, zero, suc, ◌+◌, ◌/◌, ◌<◌, Bool, true, ◌&&◌, cond, List, [], ◌∷◌, ◌++◌, ltb, leb, length}
use Rattle.model.specs.declared.Totals.{Totals}
use Rattle.model.specs.Block.{block_size}
use Rattle.model.specs.Blocks.{blocks}
use Rattle.model.specs.Parts.{count_limit, is_last}
use Rattle.model.specs.Sheet.{total_line}
use Rattle.text.specs.declared.draft.Draft.{Draft}
use Rattle.text.specs.Put.{Put}
use Rattle.text.specs.Written.{Wrote}
use Rattle.runs.specs.Run.{text_run}
use Rattle.clearance_block.specs.declared.BlockCleared.{BlockCleared}
use Rattle.clearance_block.specs.Answer.{AnswersOf}
use Rattle.clearance_lines.specs.declared.part.Written.{Written}
use Rattle.clearance_lines.specs.Lines.{longest_line, lines_from, totals_from, text_of}

-- ---- what there is room for
-- every total is below n
pub record Below (n : ℕ) (t : Totals) : Type 0 where
  pub blocks : t.blocks < n
  pub clear : t.clear < n
  pub contact : t.contact < n
  pub undecided : t.undecided < n
  pub refused : t.refused < n

abbrev pub countable : Totals → Bool
countable t =
    ltb t.blocks count_limit && ltb t.clear count_limit && ltb t.contact count_limit && ltb t.undecided count_limit
    && ltb t.refused count_limit

-- room for a line of each block, of a rest and of the totals
abbrev pub fits : ℕ → ℕ → Totals → Bool
fits size room t = leb (size / block_size + 2) (room / longest_line) && countable t

-- ---- blocks worked, from those totals on: an answer of each, whose lines p' has behind p, in at most n bytes, and whose totals are t'
pub record Worked (n : ℕ) (t : Totals) (bs : List (List ℕ)) (p p' : Draft) (t' : Totals) : Type 0 where
  pub came : List BlockCleared
  pub sound : AnswersOf bs came
  pub lines : Wrote n p (lines_from t.blocks came) p'
  pub totals : t' ≡ totals_from t came

-- ---- a part: its lines, and after the last part the totals. Where there is no room nothing is written or counted, and the run is over.
module _ (t : Totals) (part : List ℕ) (room : ℕ) where
  abbrev pub text_for : List BlockCleared → List ℕ
  text_for came = cond (fits (length part) room t) (lines_from t.blocks came ++ cond (is_last part) (total_line (totals_from t came)) []) []

  abbrev pub totals_for : List BlockCleared → Totals
  totals_for came = cond (fits (length part) room t) (totals_from t came) t

  abbrev pub last_for : Bool
  last_for = cond (fits (length part) room t) (is_last part) true

pub record PartWorked (t : Totals) (part d d' : List ℕ) (r : Written) : Type 0 where
  pub came : List BlockCleared
  pub sound : fits (length part) (length d) t ≡ true → AnswersOf (blocks part) came
  pub text : Put d 0 (text_for t part (length d) came) d' r.at
  pub totals : r.totals ≡ totals_for t part (length d) came
  pub last : r.last ≡ last_for t part (length d)

-- ---- a run over parts, where `came` has the answers of the whole file by their place: each part has as many as blocks, from the count of those before on
unfoldable pub answers_from : (ℕ → BlockCleared) → ℕ → ℕ → List BlockCleared
answers_from came n zero = []
answers_from came n (suc k) = came n ∷ answers_from came (n + 1) k

module _ (came : ℕ → BlockCleared) where
  -- those of the blocks of a part
  abbrev pub came_for : Totals → List ℕ → List BlockCleared
  came_for t part = answers_from came t.blocks (length (blocks part))

  abbrev pub run : ℕ → Totals → List (List ℕ) → List ℕ
  run room =
      text_run (λ t p. totals_for t p room (came_for t p)) (λ t p. last_for t p room) (λ t p. text_for t p room (came_for t p))

-- ---- a file's text: the lines and the totals of answers, one for each of its blocks
pub record Printed (b text : List ℕ) : Type 0 where
  pub came : List BlockCleared
  pub sound : AnswersOf (blocks b) came
  pub lines : text ≡ text_of came
