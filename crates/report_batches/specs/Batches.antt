-- The bytes of batches: a part of one worked into its report, and batches one behind another.
use Rattle.std.specs.Prelude.{ℕ, List, [], ◌∷◌, take, drop}
use Rattle.std.specs.Float.{binary32}
use Rattle.model.specs.Sheet.{answers}
use Rattle.model.specs.Parts.{is_last}
use Rattle.model.specs.Work.{BlockAnswer}
use Rattle.runs.specs.Run.{run}
use Rattle.report_counts.specs.declared.counting.Report.{Report}
use Rattle.report_counts.specs.Report.{report, counted_all, together}
use Rattle.report_batches.specs.declared.Added.{Added}

-- ---- a batch in parts
abbrev pub added : Report → List ℕ → Added
added r part = record { report = counted_all r (answers binary32 part); last = is_last part }

-- part by part, up to the last
abbrev pub added_parts : Report → List (List ℕ) → Report → Report
added_parts r ps none = run (λ r p. (added r p).report) (λ r p. (added r p).last) (λ r p. (added r p).report) (λ r p later. later) none r ps

-- ---- batches one behind another
-- the answers of each of so many bytes
unfoldable pub batches_in : List ℕ → List ℕ → List (List BlockAnswer)
batches_in [] b = []
batches_in (n ∷ ns) b = answers binary32 (take n b) ∷ batches_in ns (drop n b)

-- ---- files
unfoldable pub answers_of : List (List ℕ) → List (List BlockAnswer)
answers_of [] = []
answers_of (b ∷ bs) = answers binary32 b ∷ answers_of bs

-- each put behind those before it
unfoldable pub merged_files : Report → List (List ℕ) → Report
merged_files r [] = r
merged_files r (b ∷ bs) = merged_files (together r (report (answers binary32 b ∷ []))) bs
