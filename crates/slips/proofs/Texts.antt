-- First contacts, reports and lines: what each slip would change. By computing.
use Rattle.std.proofs.Common.{None}
use mathlib.Core.Path.{◌≡◌, refl}
use Prim.Native.Nat.{ℕ}
use native.Mathlib.Omega.{arith}
use borrow.Author.Tests.{le-ltb}
use mathlib.Core.Bool.{false}
use mathlib.Core.List.{List, [], ◌∷◌}
use lib.ListN.{length}
use lib.Ieee.{nan, of_bits, lt, eq}
use Rattle.model.specs.declared.Status.TheVariants.{Hit}
use Rattle.model.specs.Block.{refused}
use Rattle.model.specs.Work.{BlockAnswer, worked}
use Rattle.model.specs.Ground.{vector}
use Rattle.model.specs.Corners.{no_search}
use Rattle.model.specs.SweepToi.{counts, contact}
use Rattle.model.specs.Parts.{part_size}
use Rattle.model.specs.Text.{decimal_by, line}
use Rattle.model.specs.Sheet.{totals, total_line}
use Rattle.any_contact_search.specs.First.{first_from, said}
use Rattle.any_contact_search.specs.Search.{searched_to}
use Rattle.report_counts.specs.Rows.{hit_row, rows_in, times_in}
use Rattle.report_counts.specs.Largest.{larger, largest_from, largest_in, moved, seen_at}
use Rattle.report_counts.specs.Report.{report, every_answer, tally_from, counted, together}
use Rattle.report_lines.specs.Text.{most_text}
use Rattle.job_text.specs.Job.{count_at}
use Rattle.sheet_lines64.specs.Part.{line_for}
use Rattle.slips.proofs.Ground.{n0, n1}

-- a hit at 1 with 3 calls, 2 searches and 1 step
abbrev at_one : BlockAnswer
at_one = worked 7 (record { status = Hit; contact = contact n1 (vector n0 n0) (vector n0 n0); counts = counts 3 2 1; corners = no_search })

-- ---- first contacts
pub none-capitalised : said 0 ≡ 110 ∷ 111 ∷ 110 ∷ 101 ∷ 10 ∷ []
none-capitalised = refl

-- the first block is number 1
pub numbers-from-zero : first_from 0 (at_one ∷ []) ≡ 1
unfolding first_from
numbers-from-zero = refl

-- a whole part without a contact is not the last
pub search-ends-at-first-part : (n : ℕ) (p : List ℕ) → length p ≡ part_size → (searched_to n p 0).over ≡ false
search-ends-at-first-part n p full = le-ltb (length p) part_size (omega (arith, full))

-- ---- reports
pub empty-counts-a-batch : (report []).batches ≡ 0
unfolding report
empty-counts-a-batch = refl

pub batch-begins-uncounted : (report ([] ∷ [])).batches ≡ 1
unfolding report
batch-begins-uncounted = refl

pub blocks-from-zero : (counted (report ([] ∷ [])) at_one).largest.calls ≡ seen_at 3 1 1
unfolding counted report every_answer tally_from rows_in times_in largest_in largest_from larger
blocks-from-zero = refl

-- the second report's batches follow the first's: its one batch is number 2
pub second-batches-not-moved : (together (report ([] ∷ [])) (counted (report ([] ∷ [])) at_one)).largest.calls ≡ seen_at 3 2 1
unfolding together counted report every_answer tally_from rows_in times_in largest_in largest_from larger moved
second-batches-not-moved = refl

-- 1 is in no eighth, and what is no number is not above 1
pub one-counted-in-seven-eighths : hit_row n1 ≡ 13
unfolding hit_row lt eq of_bits
one-counted-in-seven-eighths = refl

pub nan-counted-as-above : hit_row nan ≡ 16
unfolding hit_row lt eq of_bits
nan-counted-as-above = refl

-- where no block was worked: `0 0 0`, not `0 1 1`
pub no-maximum-told-as-block-1 : most_text None ≡ 48 ∷ 32 ∷ 48 ∷ 32 ∷ 48 ∷ 10 ∷ []
unfolding decimal_by
no-maximum-told-as-block-1 = refl

-- ---- lines
-- `TOTAL 1 2 3 4 5`: refused is the last
pub undecided-printed-after-refused : total_line (totals 1 2 3 4 5)
    ≡ 84 ∷ 79 ∷ 84 ∷ 65 ∷ 76 ∷ 32 ∷ 49 ∷ 32 ∷ 50 ∷ 32 ∷ 51 ∷ 32 ∷ 52 ∷ 32 ∷ 53 ∷ 10 ∷ []
unfolding total_line line decimal_by
undecided-printed-after-refused = refl

-- a count of 17 in a job's line is taken for 16, so that the line is not the block's
pub line-of-17-points-passed : count_at (7 ∷ 17 ∷ 1 ∷ []) 1 ≡ 16
line-of-17-points-passed = refl

-- of f64: where an f32 line has room there is none
pub longest-line-of-f32 : line_for 1 (refused 0 9) 240 ≡ []
longest-line-of-f32 = refl
