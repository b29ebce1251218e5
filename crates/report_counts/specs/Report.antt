-- The report of a list of batches, each the list of its answers; one answer more; and two reports put together.
use Rattle.std.specs.Prelude.{ℕ, zero, suc, List, [], ◌∷◌, ◌++◌, length, slice_index, slice_set}
use Rattle.report_counts.specs.declared.most.Largest.{Largest}
use Rattle.report_counts.specs.declared.counting.Report.{Report}
use Rattle.report_counts.specs.Rows.{row_count, rows_of, rows_in, times_in}
use Rattle.report_counts.specs.Largest.{hold, plus, larger_each, moved_each, seen, largest_in}
use Rattle.model.specs.Work.{BlockAnswer}

abbrev pub reported : ℕ → List ℕ → Largest → Report
reported batches counts most = record { batches = batches; counts = counts; largest = most }

-- ---- the report
-- the answers of all batches
unfoldable pub every_answer : List (List BlockAnswer) → List BlockAnswer
every_answer [] = []
every_answer (b ∷ bs) = b ++ every_answer bs

-- how often each of n rows from row k on comes
unfoldable pub tally_from : ℕ → ℕ → List ℕ → List ℕ
tally_from k zero rows = []
tally_from k (suc n) rows = hold (times_in k rows) ∷ tally_from (suc k) n rows

abbrev pub tally : List ℕ → List ℕ
tally rows = tally_from 0 row_count rows

unfoldable pub report : List (List BlockAnswer) → Report
report bs = reported (hold (length bs)) (tally (rows_in (every_answer bs))) (largest_in 0 bs)

-- ---- one answer more in the report of one batch
abbrev pub bumped : ℕ → List ℕ → List ℕ
bumped row counts = slice_set counts row (plus (slice_index counts row) 1)

unfoldable pub bumped_all : List ℕ → List ℕ → List ℕ
bumped_all [] counts = counts
bumped_all (row ∷ rows) counts = bumped_all rows (bumped row counts)

unfoldable pub counted : Report → BlockAnswer → Report
counted r x = reported r.batches (bumped_all (rows_of x) r.counts) (larger_each r.largest (seen 1 (plus (slice_index r.counts 0) 1) x))

unfoldable pub counted_all : Report → List BlockAnswer → Report
counted_all r [] = r
counted_all r (x ∷ xs) = counted_all (counted r x) xs

-- ---- two reports: the sums of their counts, the larger of their maxima, the second's batches moved up by the first's
unfoldable pub sums : List ℕ → List ℕ → List ℕ
sums (m ∷ ms) (n ∷ ns) = plus m n ∷ sums ms ns
sums [] ns = []
sums (m ∷ ms) [] = []

unfoldable pub together : Report → Report → Report
together a b =
    reported (plus a.batches b.batches) (sums a.counts b.counts) (larger_each a.largest (moved_each a.batches b.largest))
