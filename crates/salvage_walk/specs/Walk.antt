-- The walk through a file from its start: where the 512 bytes from the present place on pass they are kept, and else one byte is skipped. What it
-- keeps, and what it tells.
use Rattle.std.specs.Prelude.{ℕ, zero, suc, ◌+◌, ◌*◌, cond, List, [], ◌∷◌, ◌++◌, eqb, ltb, length, take, drop}
use Rattle.model.specs.Block.{block_size}
use Rattle.text.specs.Put.{number}
use Rattle.model.specs.Blocks.{passes}
use Rattle.salvage_walk.specs.declared.Walk.{Walk}

-- ---- a step, with the bytes that it goes over
pub data Step : Type 0 where
  kept : List ℕ → Step
  skipped : List ℕ → Step

abbrev pub bytes_of : Step → List ℕ
bytes_of (kept x) = x
bytes_of (skipped x) = x

-- from where these bytes are left
unfoldable pub step_at : List ℕ → Step
step_at b = cond (passes (take block_size b)) (kept (take block_size b)) (skipped (take 1 b))

-- at most n steps, as long as so many bytes are left
unfoldable pub steps_by : ℕ → ℕ → List ℕ → List Step
steps_by least zero b = []
steps_by least (suc n) b = cond (ltb (length b) least) [] (step_at b ∷ steps_by least n (drop (length (bytes_of (step_at b))) b))

-- to the end of a file
abbrev pub steps : List ℕ → List Step
steps b = steps_by 1 (length b) b

-- ---- what is kept
abbrev pub kept_by : Step → List ℕ
kept_by (kept x) = x
kept_by (skipped x) = []

unfoldable pub kept_bytes : List Step → List ℕ
kept_bytes [] = []
kept_bytes (s ∷ r) = kept_by s ++ kept_bytes r

-- ---- what is told: how many blocks were kept, how many bytes skipped before the present run, and in it
abbrev pub next : Walk → Step → Walk
next w (kept x) = record { kept = w.kept + 1; skipped = w.skipped + w.run; run = 0 }
next w (skipped x) = record { kept = w.kept; skipped = w.skipped; run = w.run + 1 }

unfoldable pub after : Walk → List Step → Walk
after w [] = w
after w (s ∷ r) = after (next w s) r

-- the place where the run starts, and its length
unfoldable pub run_line : Walk → List ℕ
run_line w = cond (eqb w.run 0) [] (number (block_size * w.kept + w.skipped) 32 ++ number w.run 10)

-- a run is told where it ends
abbrev pub told_by : Walk → Step → List ℕ
told_by w (kept x) = run_line w
told_by w (skipped x) = []

unfoldable pub run_lines : Walk → List Step → List ℕ
run_lines w [] = []
run_lines w (s ∷ r) = told_by w s ++ run_lines (next w s) r

-- `TOTAL `
abbrev pub total_text : List ℕ
total_text = 84 ∷ 79 ∷ 84 ∷ 65 ∷ 76 ∷ 32 ∷ []

unfoldable pub total_line : Walk → List ℕ
total_line w = total_text ++ (number w.kept 32 ++ number (w.skipped + w.run) 10)

-- at the end
abbrev pub last_lines : Walk → List ℕ
last_lines w = run_line w ++ total_line w

-- ---- a file
abbrev pub at_start : Walk
at_start = record { kept = 0; skipped = 0; run = 0 }

abbrev pub file_of : List ℕ → List ℕ
file_of b = kept_bytes (steps b)

abbrev pub text_of : List ℕ → List ℕ
text_of b = run_lines at_start (steps b) ++ last_lines (after at_start (steps b))
