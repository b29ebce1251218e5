-- Lines to blocks, byte by byte: a run holds the line that it is in, and what it has written of both texts.
use Rattle.std.specs.Prelude.{ℕ, ◌+◌, ◌/◌, Bool, cond, List, [], ◌∷◌, ◌++◌, eqb, ltb, length, take, replicate, ◌≡◌}
use Rattle.model.specs.Block.{block_size}
use Rattle.runs.specs.Run.{text_run}
use Rattle.text.specs.Put.{pasted, Put}
use Rattle.pack_lines.specs.declared.Held.{Held}
use Rattle.job_text.specs.Job.{longest_line, block_for, is_job}
use Rattle.job_text.specs.Room.{refusal, told_for, used_of}

-- what a whole line adds to standard output, and as line n to standard error
abbrev pub packed : List ℕ → List ℕ
packed l = cond (is_job l) (block_for l) []

abbrev pub complaint : ℕ → List ℕ → List ℕ
complaint n l = cond (is_job l) [] (refusal n 14)

pub record Run : Type 0 where
  pub out : List ℕ
  pub told : List ℕ
  pub line : List ℕ
  pub lines : ℕ

-- of a line longer than any job's no more is kept: what is kept has no newline, and is no job either
abbrev pub longer : List ℕ → ℕ → List ℕ
longer l x = cond (ltb (length l) longest_line) (l ++ (x ∷ [])) l

abbrev pub line_ended : Run → List ℕ → Run
line_ended r l = record { out = r.out ++ packed l; told = r.told ++ complaint (r.lines + 1) l; line = []; lines = r.lines + 1 }

abbrev pub line_on : Run → List ℕ → Run
line_on r l = record { out = r.out; told = r.told; line = l; lines = r.lines }

abbrev pub byte_more : Run → ℕ → Run
byte_more r x = cond (eqb x 10) (line_ended r (longer r.line x)) (line_on r (longer r.line x))

unfoldable pub run_over : Run → List ℕ → Run
run_over r [] = r
run_over r (x ∷ xs) = run_over (byte_more r x) xs

-- ---- by parts
abbrev pub held : List ℕ → ℕ → ℕ → Held
held l size lines = record { line = l; size = size; lines = lines }

-- a line, handed on with zeros after it
abbrev pub held_of : List ℕ → ℕ → Held
held_of l lines = held (pasted (replicate longest_line 0) 0 l) (length l) lines

abbrev pub held_after : Run → Held
held_after r = held_of r.line r.lines

-- nothing written yet, in the line that is held
abbrev pub fresh : Held → Run
fresh h = record { out = []; told = []; line = take h.size h.line; lines = h.lines }

-- how many bytes of a part are packed into such rooms, and the run over them
abbrev pub used_bytes : Held → List ℕ → ℕ → ℕ → ℕ
used_bytes h part room err_room = used_of (length part) (room / block_size) err_room h.lines

abbrev pub run_in : Held → List ℕ → ℕ → ℕ → Run
run_in h part room err_room = run_over (fresh h) (take (used_bytes h part room err_room) part)

-- after the last part: a line without its newline is no job
abbrev pub last_for : Held → ℕ → List ℕ
last_for h room = cond (eqb h.size 0) [] (told_for h.lines 14 room)

-- ---- a whole text
abbrev pub at_start : Run
at_start = record { out = []; told = []; line = []; lines = 0 }

-- a line without its newline is no job
abbrev pub unfinished : Run → List ℕ
unfinished r = cond (eqb (length r.line) 0) [] (refusal (r.lines + 1) 14)

abbrev pub pack_out : List ℕ → List ℕ
pack_out b = (run_over at_start b).out

abbrev pub pack_told : List ℕ → List ℕ
pack_told b = (run_over at_start b).told ++ unfinished (run_over at_start b)

-- ---- a run over parts of such a length, with such rooms for what each comes to: a shorter part is the last one
module _ (size room err_room : ℕ) where
  abbrev pub next_held : Held → List ℕ → Held
  next_held h part = held_after (run_in h part room err_room)

  abbrev pub is_last : Held → List ℕ → Bool
  is_last h part = ltb (length part) size

  abbrev pub write_by : Held → List ℕ → List ℕ
  write_by h part = (run_in h part room err_room).out

  abbrev pub tell_by : Held → List ℕ → List ℕ
  tell_by h part = (run_in h part room err_room).told ++ cond (is_last h part) (last_for (next_held h part) err_room) []

  abbrev pub out_by : Held → List (List ℕ) → List ℕ
  out_by = text_run next_held is_last write_by

  abbrev pub told_by : Held → List (List ℕ) → List ℕ
  told_by = text_run next_held is_last tell_by

-- ---- what one byte does to the places after both texts, the size of the line and the count of lines
module _ (x : ℕ) (l : List ℕ) (lines : ℕ) (out : List ℕ) (at : ℕ) (out' : List ℕ) (at' : ℕ) (err : List ℕ) (told : ℕ) (err' : List ℕ)
    (told' size lines' : ℕ) where
  pub record Ends : Type 0 where
    pub written : Put out at (cond (eqb x 10) (packed l) []) out' at'
    pub complaints : Put err told (cond (eqb x 10) (complaint (lines + 1) l) []) err' told'
    pub held : size ≡ cond (eqb x 10) 0 (length l)
    pub ended : lines' ≡ cond (eqb x 10) (lines + 1) lines
