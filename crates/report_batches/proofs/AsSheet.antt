-- The report's numbers are those of the sheets' lines: blocks are the lines, clear those with S, overlapped with O, failed with F, hit with H, refused
-- those without a letter. Assumes nothing.
use Rattle.std.proofs.Common.{Ok, Err}
use mathlib.Core.Path.{◌≡◌, refl, ap, ◌∙◌}
use mathlib.Core.Bool.{Bool, cond}
use mathlib.Core.List.{List, [], ◌∷◌, ◌++◌}
use Prim.Native.Nat.{ℕ, ◌+◌, ◌≤◌}
use native.Mathlib.Omega.{arith}
use borrow.Author.Tests.{ne_eqb}
use lib.Dec.{eqb}
use lib.Ieee.{Format, binary32}
use lib.ListN.{length, get_or, length-append}
use Rattle.model.specs.declared.Status.{Status}
use Rattle.model.specs.declared.Status.TheVariants.{Overlapped, Hit, Separated, Failed}
use Rattle.model.specs.Sheet.{letter_of, answers}
use Rattle.model.specs.Counted.{lines_one_by_one, sheet_lines, how_many}
use Rattle.model.specs.Work.{BlockAnswer}
use Rattle.model.proofs.Counted.{letter_told, letter-printed, a-line-each}
use Rattle.report_counts.specs.Rows.{status_row, detail_by, group_row, detail_row, rows_of, rows_in, times_in}
use Rattle.report_counts.specs.Largest.{hold}
use Rattle.report_counts.specs.Report.{every_answer, report}
use Rattle.report_counts.proofs.Tally.{times-append, rows_append, get_d-tally, every-block, hit-rows, refusal-past}
use Rattle.report_batches.specs.Batches.{answers_of}

-- ---- one answer
abbrev once : Bool → ℕ
once s = cond s 1 0

-- its detail's row is none of blocks, statuses and refusals
detail-apart : (x : BlockAnswer) → (5 ≤ detail_row x) × (detail_row x ≡ 17 → ⊥)
detail-apart (Err r) = (omega (arith, refusal-past r.number), λ e. omega (arith, refusal-past r.number))
detail-apart (Ok w) = go w.verdict.status
  where
    go : (s : Status) → (5 ≤ detail_by s w.verdict.contact.fraction) × (detail_by s w.verdict.contact.fraction ≡ 17 → ⊥)
    go Overlapped = (omega arith, λ e. omega arith)
    go Hit = let (low, high) = hit-rows w.verdict.contact.fraction in (low, λ e. omega arith)
    go Separated = (omega arith, λ e. omega arith)
    go Failed = (omega arith, λ e. omega arith)

group-alone : (row : ℕ) (x : BlockAnswer) → 1 ≤ row → (detail_row x ≡ row → ⊥) → times_in row (rows_of x) ≡ once (eqb (group_row x) row)
unfolding times_in
group-alone row x low apart = rw (ne_eqb 0 row (λ e. omega arith), ne_eqb (detail_row x) row apart) (omega arith)

-- a row of a status stands for a letter
abbrev Stands : ℕ → ℕ → Type 0
Stands row letter = (x : BlockAnswer) → times_in row (rows_of x) ≡ once (eqb (letter_told x) letter)

stands : (row letter : ℕ) → 1 ≤ row → ((x : BlockAnswer) → detail_row x ≡ row → ⊥)
    → ((s : Status) → once (eqb (status_row s) row) ≡ once (eqb (letter_of s) letter)) → once (eqb 17 row) ≡ once (eqb 0 letter) → Stands row letter
stands row letter low apart worked refused (Ok w) = group-alone row (Ok w) low (apart (Ok w)) ∙ worked w.verdict.status
stands row letter low apart worked refused (Err r) = group-alone row (Err r) low (apart (Err r)) ∙ refused

early : (row : ℕ) → row ≤ 4 → (x : BlockAnswer) → detail_row x ≡ row → ⊥
early row h x e = omega (arith, (detail-apart x).0)

clear-is-S : Stands 1 83
clear-is-S = stands 1 83 (omega arith) (early 1 (omega arith)) go refl
  where
    go : (s : Status) → once (eqb (status_row s) 1) ≡ once (eqb (letter_of s) 83)
    go Overlapped = refl
    go Hit = refl
    go Separated = refl
    go Failed = refl

overlapped-is-O : Stands 2 79
overlapped-is-O = stands 2 79 (omega arith) (early 2 (omega arith)) go refl
  where
    go : (s : Status) → once (eqb (status_row s) 2) ≡ once (eqb (letter_of s) 79)
    go Overlapped = refl
    go Hit = refl
    go Separated = refl
    go Failed = refl

failed-is-F : Stands 3 70
failed-is-F = stands 3 70 (omega arith) (early 3 (omega arith)) go refl
  where
    go : (s : Status) → once (eqb (status_row s) 3) ≡ once (eqb (letter_of s) 70)
    go Overlapped = refl
    go Hit = refl
    go Separated = refl
    go Failed = refl

hit-is-H : Stands 4 72
hit-is-H = stands 4 72 (omega arith) (early 4 (omega arith)) go refl
  where
    go : (s : Status) → once (eqb (status_row s) 4) ≡ once (eqb (letter_of s) 72)
    go Overlapped = refl
    go Hit = refl
    go Separated = refl
    go Failed = refl

refused-has-none : Stands 17 0
refused-has-none = stands 17 0 (omega arith) (λ x. (detail-apart x).1) go refl
  where
    go : (s : Status) → once (eqb (status_row s) 17) ≡ once (eqb (letter_of s) 0)
    go Overlapped = refl
    go Hit = refl
    go Separated = refl
    go Failed = refl

-- ---- a file, and files
lines-counted : (row letter : ℕ) → Stands row letter → (f : Format) (n : ℕ) (xs : List BlockAnswer) →
    times_in row (rows_in xs) ≡ how_many letter (lines_one_by_one f n xs)
unfolding times_in rows_in how_many lines_one_by_one
lines-counted row letter agree f n [] = refl
lines-counted row letter agree f n (x ∷ xs) =
    rw (letter-printed f (n + 1) x) (omega (arith, agree x, times-append row (rows_of x) (rows_in xs), lines-counted row letter agree f (n + 1) xs))

how-many-append : (letter : ℕ) (ls ms : List (List ℕ)) → how_many letter (ls ++ ms) ≡ how_many letter ls + how_many letter ms
unfolding how_many
how-many-append letter [] ms = omega arith
how-many-append letter (l ∷ ls) ms = omega (arith, how-many-append letter ls ms)

-- the lines of all sheets, TOTAL not among them
unfoldable pub all_lines : List (List ℕ) → List (List ℕ)
all_lines [] = []
all_lines (b ∷ bs) = sheet_lines binary32 b ++ all_lines bs

files-counted : (row letter : ℕ) → Stands row letter → (files : List (List ℕ)) →
    times_in row (rows_in (every_answer (answers_of files))) ≡ how_many letter (all_lines files)
unfolding every_answer answers_of all_lines rows_in times_in how_many
files-counted row letter agree [] = refl
files-counted row letter agree (b ∷ bs) =
    rw (rows_append (answers binary32 b) (every_answer (answers_of bs))) (omega (
      arith,
      times-append row (rows_in (answers binary32 b)) (rows_in (every_answer (answers_of bs))),
      how-many-append letter (sheet_lines binary32 b) (all_lines bs),
      lines-counted row letter agree binary32 0 (answers binary32 b),
      files-counted row letter agree bs,
    ))

blocks-lined : (files : List (List ℕ)) → length (every_answer (answers_of files)) ≡ length (all_lines files)
unfolding every_answer answers_of all_lines
blocks-lined [] = refl
blocks-lined (b ∷ bs) =
    rw (length-append (answers binary32 b) (every_answer (answers_of bs)), length-append (sheet_lines binary32 b) (all_lines bs))
    (omega (arith, a-line-each binary32 0 (answers binary32 b), blocks-lined bs))

-- ---- the report; below 2 ^ 64 a number is held as it is
pub record AsSheets (counts : List ℕ) (lines : List (List ℕ)) : Type 0 where
  pub blocks : get_or counts 0 0 ≡ hold (length lines)
  pub clear : get_or counts 1 0 ≡ hold (how_many 83 lines)
  pub overlapped : get_or counts 2 0 ≡ hold (how_many 79 lines)
  pub failed : get_or counts 3 0 ≡ hold (how_many 70 lines)
  pub hit : get_or counts 4 0 ≡ hold (how_many 72 lines)
  pub refused : get_or counts 17 0 ≡ hold (how_many 0 lines)

pub as-sheets : (files : List (List ℕ)) → AsSheets (report (answers_of files)).counts (all_lines files)
unfolding report
as-sheets files =
    let rows = rows_in (every_answer (answers_of files)) in
    record {
      blocks = get_d-tally 0 28 rows 0 (omega arith) ∙ ap hold (every-block (every_answer (answers_of files)) ∙ blocks-lined files);
      clear = get_d-tally 0 28 rows 1 (omega arith) ∙ ap hold (files-counted 1 83 clear-is-S files);
      overlapped = get_d-tally 0 28 rows 2 (omega arith) ∙ ap hold (files-counted 2 79 overlapped-is-O files);
      failed = get_d-tally 0 28 rows 3 (omega arith) ∙ ap hold (files-counted 3 70 failed-is-F files);
      hit = get_d-tally 0 28 rows 4 (omega arith) ∙ ap hold (files-counted 4 72 hit-is-H files);
      refused = get_d-tally 0 28 rows 17 (omega arith) ∙ ap hold (files-counted 17 0 refused-has-none files);
    }
