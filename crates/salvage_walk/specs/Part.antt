-- The same by parts: what is at hand is walked as long as 512 bytes of it are left, and the rest is handed on, in front of the next part.
use Rattle.std.specs.Prelude.{◌≡◌, ℕ, ◌+◌, ◌-◌, ◌/◌, Bool, true, cond, ◌&&◌, List, [], ◌∷◌, ◌++◌, leb, ltb, length, drop}
use Rattle.model.specs.Block.{block_size}
use Rattle.runs.specs.Run.{text_run}
use Rattle.text.specs.Put.{Put}
use Rattle.salvage_walk.specs.declared.Walk.{Walk}
use Rattle.salvage_walk.specs.Walk.{Step, bytes_of, steps_by, kept_bytes, after, run_line, run_lines, total_line}

abbrev pub steps_in : List ℕ → List Step
steps_in b = steps_by block_size (length b) b

unfoldable pub all_bytes : List Step → List ℕ
all_bytes [] = []
all_bytes (s ∷ r) = bytes_of s ++ all_bytes r

-- behind the steps
abbrev pub rest_of : List ℕ → List ℕ
rest_of b = drop (length (all_bytes (steps_in b))) b

-- ---- room
-- places below this can be counted on through any part without wrapping
abbrev pub place_limit : ℕ
place_limit = 0x4000_0000_0000_0000

abbrev pub countable : ℕ → Walk → Bool
countable size w = ltb size place_limit && ltb w.kept (place_limit / block_size) && ltb w.skipped place_limit && ltb w.run place_limit

-- for every block, and for a run's two numbers before each
abbrev pub fits : ℕ → ℕ → ℕ → Walk → Bool
fits size room text_room w = leb size room && leb (size / block_size) (text_room / 42) && countable size w

-- where there is no room nothing is written or handed on, and the walk stays
module _ (b : List ℕ) (w : Walk) (room text_room : ℕ) where
  abbrev pub roomy : Bool
  roomy = fits (length b) room text_room w

  abbrev pub file_for : List ℕ
  file_for = cond roomy (kept_bytes (steps_in b)) []

  abbrev pub text_for : List ℕ
  text_for = cond roomy (run_lines w (steps_in b)) []

  abbrev pub rest_for : List ℕ
  rest_for = cond roomy (rest_of b) []

  abbrev pub walk_for : Walk
  walk_for = cond roomy (after w (steps_in b)) w

-- what is written of these bytes into the three lists, and answered
module _ (b : List ℕ) (w : Walk) (buffer buffer' file file' text text' : List ℕ) (file_at text_at held : ℕ) (w' : Walk) (was-room : Bool) where
  pub record SalvagedTo : Type 0 where
    pub kept : Put file 0 (file_for b w (length file) (length text)) file' file_at
    pub told : Put text 0 (text_for b w (length file) (length text)) text' text_at
    pub left : Put buffer 0 (rest_for b w (length file) (length text)) buffer' held
    pub walk : w' ≡ walk_for b w (length file) (length text)
    pub done : was-room ≡ roomy b w (length file) (length text)

-- ---- the end of the file, with so many bytes handed on: none of them can start a block
abbrev pub skipped_on : ℕ → Walk → Walk
skipped_on n w = record { kept = w.kept; skipped = w.skipped; run = w.run + n }

abbrev pub last_run_for : ℕ → Walk → ℕ → List ℕ
last_run_for n w text_room = cond (leb 42 text_room && countable n w) (run_line (skipped_on n w)) []

abbrev pub total_for : ℕ → Walk → ℕ → List ℕ
total_for n w text_room = cond (leb 48 text_room && countable n w) (total_line (skipped_on n w)) []

-- ---- a run over parts: what is handed on in front of the next one, and the walk so far
pub record Stand : Type 0 where
  pub held : List ℕ
  pub walk : Walk

abbrev pub stand : List ℕ → Walk → Stand
stand held w = record { held = held; walk = w }

-- with a buffer and a file of such a length, and room for so much text
module _ (room text_room : ℕ) where
  -- a part is read behind what is held
  abbrev pub part_room : Stand → ℕ
  part_room s = room - length s.held

  abbrev pub next_stand : Stand → List ℕ → Stand
  next_stand s part = let b = s.held ++ part in stand (rest_for b s.walk room text_room) (walk_for b s.walk room text_room)

  -- the last part leaves the buffer not full; the run is over too where there was no room
  abbrev pub is_last : Stand → List ℕ → Bool
  is_last s part = roomy (s.held ++ part) s.walk room text_room && ltb (length (s.held ++ part)) room

  abbrev pub is_over : Stand → List ℕ → Bool
  is_over s part = cond (roomy (s.held ++ part) s.walk room text_room) (ltb (length (s.held ++ part)) room) true

  -- what is written of a part, and what is told: after the last one its last run and the totals too
  abbrev pub write_by : Stand → List ℕ → List ℕ
  write_by s part = file_for (s.held ++ part) s.walk room text_room

  abbrev pub last_for : Stand → List ℕ
  last_for s = last_run_for (length s.held) s.walk text_room ++ total_for (length s.held) s.walk text_room

  abbrev pub tell_by : Stand → List ℕ → List ℕ
  tell_by s part = text_for (s.held ++ part) s.walk room text_room ++ cond (is_last s part) (last_for (next_stand s part)) []

  abbrev pub file_by : Stand → List (List ℕ) → List ℕ
  file_by = text_run next_stand is_over write_by

  abbrev pub text_by : Stand → List (List ℕ) → List ℕ
  text_by = text_run next_stand is_over tell_by
