-- A batch read in parts, and files in order: what the program does with `add_part` and `merge` is the report of all batches. Assumes nothing.
use mathlib.Core.Path.{◌≡◌, sym, ap, ◌∙◌}
use mathlib.Core.List.{List, [], ◌∷◌, ◌++◌, append_assoc, append-nil}
use Prim.Native.Nat.{ℕ, ◌%◌, ◌≤◌}
use native.Mathlib.Omega.{arith}
use borrow.Author.Tests.{lt-ltb, le-ltb}
use lib.Ieee.{binary32}
use lib.ListN.{length}
use Rattle.model.specs.Sheet.{answers}
use Rattle.model.specs.Parts.{part_size}
use Rattle.model.specs.Parts as Parts
use Rattle.model.specs.Work.{BlockAnswer}
use Rattle.model.proofs.Sheet.{answers-in-two-parts}
use Rattle.runs.specs.Run.{Cut, Steps}
use Rattle.runs.proofs.Whole.{run-makes-whole}
use Rattle.report_counts.specs.declared.counting.Report.{Report}
use Rattle.report_counts.specs.Report.{report, counted_all, together}
use Rattle.report_counts.proofs.Merged.{counted-all, counted-one-by-one, report-of-both}
use Rattle.report_batches.specs.Batches.{added, added_parts, answers_of, merged_files}

-- ---- a file cut into whole parts and a shorter last one is worked as a whole
abbrev whole : Report → List ℕ → Report
whole r b = counted_all r (answers binary32 b)

module _ (none : Report) where
  steps : Steps (λ r p. (added r p).report) (λ r p. (added r p).last) (λ r p. (added r p).report) (λ r p later. later) none (λ r. part_size) whole (λ r b. Unit {0})
  steps = record {
    last = λ r p can short. rw (lt-ltb _ _ short);
    more = λ r p rest can full.
        let least : part_size ≤ length p = omega arith in
        let multiple : length p % 512 ≡ 0 = rw full in
        rw (le-ltb _ _ least, answers-in-two-parts binary32 p rest multiple) (sym (counted-all r (answers binary32 p) (answers binary32 rest)));
    on = λ r p rest can full. tt;
  }

  pub a-batch-in-parts : (ps : List (List ℕ)) → Cut (λ r. part_size) (λ r p. (added r p).report) (report ([] ∷ [])) ps
      → added_parts (report ([] ∷ [])) ps none ≡ report (answers binary32 (Parts.together ps) ∷ [])
  a-batch-in-parts ps cut = run-makes-whole steps (report ([] ∷ [])) ps cut tt ∙ counted-one-by-one [] (answers binary32 (Parts.together ps))

-- ---- files put together in order, from the empty report on
files-after : (done : List (List BlockAnswer)) (files : List (List ℕ)) → merged_files (report done) files ≡ report (done ++ answers_of files)
unfolding merged_files answers_of
files-after done [] = rw (append-nil done)
files-after done (b ∷ bs) =
    let one = answers binary32 b ∷ [] in
    rw (← report-of-both done one) (files-after (done ++ one) bs ∙ ap report (append_assoc done one (answers_of bs)))

pub files-in-order : (files : List (List ℕ)) → merged_files (report []) files ≡ report (answers_of files)
files-in-order files = files-after [] files
