-- A part of the input worked into lent bytes: the answers that came for its blocks, what is written of them, and whether it was the last part.
use Rattle.std.specs.Prelude.{◌≡◌, ℕ, zero, suc, ◌+◌, ◌/◌, ◌<◌, Bool, true, ◌&&◌, cond, List, [], ◌∷◌, ◌++◌, ltb, leb, length}
use Rattle.rooms_lines.specs.declared.part.Tally.{Tally}
use Rattle.model.specs.Block.{block_size}
use Rattle.model.specs.Blocks.{blocks}
use Rattle.model.specs.Parts.{count_limit, is_last}
use Rattle.text.specs.declared.draft.Draft.{Draft}
use Rattle.text.specs.Put.{Put}
use Rattle.text.specs.Written.{Wrote}
use Rattle.runs.specs.Run.{text_run}
use Rattle.rooms_block.specs.Answer.{BlockRooms, AnswersOf}
use Rattle.rooms_lines.specs.declared.part.Written.{Written}
use Rattle.rooms_lines.specs.Lines.{longest_line, lines_from, totals_from, total_line, text_of}

-- ---- what there is room for
-- every total is below n
pub record Below (n : ℕ) (t : Tally) : Type 0 where
  pub blocks : t.blocks < n
  pub refused : t.refused < n

abbrev pub countable : Tally → Bool
countable t = ltb t.blocks count_limit && ltb t.refused count_limit

-- room for a line of each block, of a rest and of the totals
abbrev pub fits : ℕ → ℕ → Tally → Bool
fits size room t = leb (size / block_size + 2) (room / longest_line) && countable t

-- ---- blocks worked, from those totals on: an answer of each, whose lines p' has behind p, in at most n bytes, and whose totals are t'
pub record Worked (n : ℕ) (t : Tally) (bs : List (List ℕ)) (p p' : Draft) (t' : Tally) : Type 0 where
  pub came : List BlockRooms
  pub sound : AnswersOf bs came
  pub lines : Wrote n p (lines_from t.blocks came) p'
  pub totals : t' ≡ totals_from t came

-- ---- a part: its lines, and after the last part the totals. Where there is no room nothing is written or counted, and the run is over.
module _ (t : Tally) (part : List ℕ) (room : ℕ) where
  abbrev pub text_for : List BlockRooms → List ℕ
  text_for came = cond (fits (length part) room t) (lines_from t.blocks came ++ cond (is_last part) (total_line (totals_from t came)) []) []

  abbrev pub totals_for : List BlockRooms → Tally
  totals_for came = cond (fits (length part) room t) (totals_from t came) t

  abbrev pub last_for : Bool
  last_for = cond (fits (length part) room t) (is_last part) true

pub record PartWorked (t : Tally) (part d d' : List ℕ) (r : Written) : Type 0 where
  pub came : List BlockRooms
  pub sound : fits (length part) (length d) t ≡ true → AnswersOf (blocks part) came
  pub text : Put d 0 (text_for t part (length d) came) d' r.at
  pub totals : r.totals ≡ totals_for t part (length d) came
  pub last : r.last ≡ last_for t part (length d)

-- ---- a run over parts, where `came` has the answers of the whole file by their place: each part has as many as blocks, from the count of those before on
unfoldable pub answers_from : (ℕ → BlockRooms) → ℕ → ℕ → List BlockRooms
answers_from came n zero = []
answers_from came n (suc k) = came n ∷ answers_from came (n + 1) k

module _ (came : ℕ → BlockRooms) where
  -- those of the blocks of so many bytes
  abbrev pub came_for : Tally → List ℕ → List BlockRooms
  came_for t part = answers_from came t.blocks (length (blocks part))

  abbrev pub run : ℕ → Tally → List (List ℕ) → List ℕ
  run room =
      text_run (λ t p. totals_for t p room (came_for t p)) (λ t p. last_for t p room) (λ t p. text_for t p room (came_for t p))

  -- what each part was given are answers of its blocks: what `write_part` promises of a part, step by step
  unfoldable pub EachPart : Tally → List (List ℕ) → Type 0
  EachPart t [] = Unit {0}
  EachPart t (p ∷ ps) = AnswersOf (blocks p) (came_for t p) × EachPart (totals_from t (came_for t p)) ps

-- ---- a file's text: the lines and the totals of answers, one for each of its blocks
pub record Printed (b text : List ℕ) : Type 0 where
  pub came : List BlockRooms
  pub sound : AnswersOf (blocks b) came
  pub lines : text ≡ text_of came
