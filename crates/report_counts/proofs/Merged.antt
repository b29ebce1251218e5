-- Reports put together: in any order, the empty one as neutral element, and it is the report of both lists; a batch's report by its answers one
-- after the other. Assumes nothing.
use Rattle.std.proofs.Common.{◌≡◌, ℕ, ◌+◌, ◌^◌, ◌<◌, List, [], ◌∷◌, ◌++◌, length, get_or, sym, refl, ap, ◌∙◌, append_assoc, append-nil, arith, length-append}
use Rattle.report_counts.specs.declared.most.Largest.{Largest}
use Rattle.report_counts.specs.declared.counting.Report.{Report}
use Rattle.report_counts.specs.Rows.{rows_of, rows_in}
use Rattle.report_counts.specs.Largest.{hold, plus, larger_each, moved_each, seen, largest_from, largest_in}
use Rattle.report_counts.specs.Report.{reported, every_answer, tally, report, counted, counted_all, sums, together}
use Rattle.report_counts.proofs.Held.{plus-held, plus_assoc, plus_none, none-plus}
use Rattle.report_counts.proofs.Tally.{rows_append, sums-tally, bumped-all, get_d-tally, every-block}
use Rattle.report_counts.proofs.Sums.{Fit, sums-assoc, sums_none, none-sums}
use Rattle.report_counts.proofs.Places.{each_none, none_each, each-assoc, moved-each, moved-each-twice, moved_nowhere, PlacedEach}
use Rattle.report_counts.proofs.Places.{moved-each-by-none, from-append, in-append, in_moved}
use Rattle.model.specs.Work.{BlockAnswer}

same-report : {m n : ℕ} {a b : List ℕ} {s t : Largest} → m ≡ n → a ≡ b → s ≡ t → reported m a s ≡ reported n b t
same-report p q r = rw (p, q, r)

-- ---- any order
pub together-assoc : (a b c : Report) → together (together a b) c ≡ together a (together b c)
unfolding together
together-assoc a b c =
    let m = a.batches in
    let n = b.batches in
    let second = moved_each m b.largest in
    let third = moved_each n c.largest in
    same-report (plus_assoc m n c.batches) (sums-assoc a.counts b.counts c.counts)
    (each-assoc a.largest second (moved_each (plus m n) c.largest)
    ∙ ap (larger_each a.largest) (ap (larger_each second) (moved-each-twice m n c.largest) ∙ sym (moved-each m b.largest third)))

-- ---- the empty report
-- what a report of the code holds: 28 counts, all numbers in 64 bits
pub record Holds (r : Report) : Type 0 where
  pub batches : r.batches < 2 ^ 64
  pub rows : length r.counts ≡ 28
  pub counts : Fit r.counts
  pub places : PlacedEach r.largest

pub empty-first : (r : Report) → Holds r → together (report []) r ≡ r
unfolding together report every_answer rows_in largest_in
empty-first r h =
    same-report (none-plus r.batches h.batches) (none-sums 0 28 r.counts h.rows h.counts)
    (none_each (moved_each 0 r.largest) ∙ moved-each-by-none r.largest h.places)

pub empty-last : (r : Report) → Holds r → together r (report []) ≡ r
unfolding together report every_answer rows_in largest_in
empty-last r h =
    same-report (plus_none r.batches h.batches) (sums_none 0 28 r.counts h.rows h.counts)
    (ap (larger_each r.largest) (moved_nowhere r.batches) ∙ each_none r.largest)

-- ---- the report of both lists
every_append : (ps qs : List (List BlockAnswer)) → every_answer (ps ++ qs) ≡ every_answer ps ++ every_answer qs
unfolding every_answer
every_append [] qs = refl
every_append (a ∷ ps) qs = rw (every_append ps qs) (sym (append_assoc a (every_answer ps) (every_answer qs)))

pub report-of-both : (ps qs : List (List BlockAnswer)) → report (ps ++ qs) ≡ together (report ps) (report qs)
unfolding report together
report-of-both ps qs =
    let count : hold (length (ps ++ qs)) ≡ plus (hold (length ps)) (hold (length qs)) = rw (length-append ps qs) (sym (plus-held (length ps) (length qs))) in
    let rows : tally (rows_in (every_answer (ps ++ qs))) ≡ sums (tally (rows_in (every_answer ps))) (tally (rows_in (every_answer qs))) =
    rw (every_append ps qs, rows_append (every_answer ps) (every_answer qs)) (sym (sums-tally 0 28 (rows_in (every_answer ps)) (rows_in (every_answer qs)))) in
    let e : 0 + length ps ≡ length ps + 0 = omega arith in
    let places : largest_in 0 (ps ++ qs) ≡ larger_each (largest_in 0 ps) (moved_each (hold (length ps)) (largest_in 0 qs)) =
    in-append 0 ps qs ∙ rw (e, in_moved (length ps) 0 qs) in
    rw (count, rows, places)

-- ---- one batch, answer by answer
one_batch : (xs : List BlockAnswer) → report (xs ∷ []) ≡ reported 1 (tally (rows_in xs)) (largest_from 1 0 xs)
unfolding report every_answer largest_in
one_batch xs = rw (append-nil xs, each_none (largest_from 1 0 xs))

last-rows : (xs : List BlockAnswer) (x : BlockAnswer) → rows_in (xs ++ (x ∷ [])) ≡ rows_in xs ++ rows_of x
unfolding rows_in
last-rows xs x = rows_append xs (x ∷ [])

last-place : (xs : List BlockAnswer) (x : BlockAnswer) →
    largest_from 1 0 (xs ++ (x ∷ [])) ≡ larger_each (largest_from 1 0 xs) (seen 1 (hold (0 + length xs + 1)) x)
unfolding largest_from
last-place xs x = from-append 1 0 xs (x ∷ []) ∙ ap (larger_each (largest_from 1 0 xs)) (each_none (seen 1 (hold (0 + length xs + 1)) x))

pub one-answer-more : (xs : List BlockAnswer) (x : BlockAnswer) → counted (report (xs ∷ [])) x ≡ report ((xs ++ (x ∷ [])) ∷ [])
unfolding counted
one-answer-more xs x =
    let before : get_or (tally (rows_in xs)) 0 0 ≡ hold (length xs) = get_d-tally 0 28 (rows_in xs) 0 (omega arith) ∙ rw (every-block xs) in
    let place : plus (hold (length xs)) 1 ≡ hold (0 + length xs + 1) = omega arith in
    rw (one_batch xs, one_batch (xs ++ (x ∷ [])), bumped-all (rows_of x) (rows_in xs), last-rows xs x, before, place, last-place xs x)

pub counted-one-by-one : (xs ys : List BlockAnswer) → counted_all (report (xs ∷ [])) ys ≡ report ((xs ++ ys) ∷ [])
unfolding counted_all
counted-one-by-one xs [] = rw (append-nil xs)
counted-one-by-one xs (y ∷ ys) = rw (one-answer-more xs y) (counted-one-by-one (xs ++ (y ∷ [])) ys ∙ rw (append_assoc xs (y ∷ []) ys))

pub counted-all : (r : Report) (xs ys : List BlockAnswer) → counted_all r (xs ++ ys) ≡ counted_all (counted_all r xs) ys
unfolding counted_all
counted-all r [] ys = refl
counted-all r (x ∷ xs) ys = counted-all (counted r x) xs ys
