-- What the rows of a report add up to: hits by fraction to hits, refusals by number to refusals, and every block is clear, overlapped, failed, hit
-- or refused; none wraps while there are fewer blocks than 2 ^ 64. Assumes nothing.
use Rattle.std.proofs.Common.{Ok, Err}
use mathlib.Core.Path.{◌≡◌, refl}
use mathlib.Core.Bool.{Bool, true, false, cond}
use mathlib.Core.List.{List, [], ◌∷◌, ◌++◌}
use Prim.Native.Nat.{ℕ, zero, suc, ◌+◌, ◌^◌, ◌≤◌, ◌<◌}
use native.Mathlib.Omega.{arith}
use borrow.Author.Tests.{ltb-true, ltb-false, eqb-true, eqb-false, ne_eqb}
use lib.Dec.{eqb, ltb}
use lib.ListN.{length, get_or}
use Rattle.model.specs.declared.Status.{Status}
use Rattle.model.specs.declared.Status.TheVariants.{Overlapped, Hit, Separated, Failed}
use Rattle.model.specs.Work.{BlockAnswer}
use Rattle.report_batches.specs.Told.{sum_of_rows, AddsUp, Given}
use Rattle.report_counts.specs.Rows.{status_row, hit_row, refusal_row, detail_by, rows_of, rows_in, times_in}
use Rattle.report_counts.specs.Largest.{hold}
use Rattle.report_counts.specs.Report.{every_answer, tally, report}
use Rattle.report_counts.proofs.Tally.{times-append, get_d-tally, every-block, hit-rows}

-- ---- rows among a list
-- how often n rows from row k on come
unfoldable sum_from : ℕ → ℕ → List ℕ → ℕ
sum_from k zero rows = 0
sum_from k (suc n) rows = times_in k rows + sum_from (suc k) n rows

sum-append : (k n : ℕ) (a b : List ℕ) → sum_from k n (a ++ b) ≡ sum_from k n a + sum_from k n b
unfolding sum_from
sum-append k zero a b = omega arith
sum-append k (suc n) a b = omega (arith, times-append k a b, sum-append (suc k) n a b)

-- one row comes once among those that it is one of
once : (k row : ℕ) (s : Bool) → eqb row k ≡ s → times_in k (row ∷ []) ≡ cond s 1 0
unfolding times_in
once k row s e = rw e (omega arith)

row_before : (k n row : ℕ) → row < k → sum_from k n (row ∷ []) ≡ 0
unfolding sum_from
row_before k zero row h = refl
row_before k (suc n) row h = omega (arith, once k row false (ne_eqb row k (λ e. omega arith)), row_before (suc k) n row (omega arith))

row-behind : (k n row : ℕ) → k + n ≤ row → sum_from k n (row ∷ []) ≡ 0
unfolding sum_from
row-behind k zero row h = refl
row-behind k (suc n) row h = omega (arith, once k row false (ne_eqb row k (λ e. omega arith)), row-behind (suc k) n row (omega arith))

row-among : (k n row : ℕ) → k ≤ row → row < k + n → sum_from k n (row ∷ []) ≡ 1
unfolding sum_from
row-among k zero row h l = absurd (omega arith)
row-among k (suc n) row h l = go (eqb row k) refl (row-among (suc k) n row)
  where
    go : (s : Bool) → eqb row k ≡ s → (suc k ≤ row → row < suc k + n → sum_from (suc k) n (row ∷ []) ≡ 1)
        → times_in k (row ∷ []) + sum_from (suc k) n (row ∷ []) ≡ 1
    go true e rest = omega (arith, once k row true e, row_before (suc k) n row (omega (arith, eqb-true row k e)))
    go false e rest = let apart = eqb-false row k e in omega (arith, once k row false e, rest (omega (arith, apart)) (omega arith))

-- ---- the sums
record Sums (rows : List ℕ) : Type 0 where
  blocks : sum_from 0 1 rows ≡ sum_from 1 4 rows + sum_from 17 1 rows
  hits : sum_from 4 1 rows ≡ sum_from 5 12 rows
  refused : sum_from 17 1 rows ≡ sum_from 18 10 rows

sums-append : (a b : List ℕ) → Sums a → Sums b → Sums (a ++ b)
sums-append a b p q = record {
  blocks = omega (arith, p.blocks, q.blocks, sum-append 0 1 a b, sum-append 1 4 a b, sum-append 17 1 a b);
  hits = omega (arith, p.hits, q.hits, sum-append 4 1 a b, sum-append 5 12 a b);
  refused = omega (arith, p.refused, q.refused, sum-append 17 1 a b, sum-append 18 10 a b);
}

-- the sums of block, group and detail
three : (k n g d : ℕ) → sum_from k n (0 ∷ g ∷ d ∷ []) ≡ sum_from k n (0 ∷ []) + sum_from k n (g ∷ []) + sum_from k n (d ∷ [])
three k n g d = omega (arith, sum-append k n (0 ∷ []) (g ∷ d ∷ []), sum-append k n (g ∷ []) (d ∷ []))

block_0 : sum_from 0 1 (0 ∷ []) ≡ 1
block_0 = row-among 0 1 0 (omega arith) (omega arith)

of-group : (g : ℕ) → 1 ≤ g → g ≤ 3 → Sums (0 ∷ g ∷ 28 ∷ [])
of-group g low high = record {
  blocks = omega (
    arith,
    three 0 1 g 28,
    three 1 4 g 28,
    three 17 1 g 28,
    block_0,
    row-behind 0 1 g (omega arith),
    row-behind 0 1 28 (omega arith),
    row_before 1 4 0 (omega arith),
    row-among 1 4 g (omega arith) (omega arith),
    row-behind 1 4 28 (omega arith),
    row_before 17 1 0 (omega arith),
    row_before 17 1 g (omega arith),
    row-behind 17 1 28 (omega arith),
  );
  hits = omega (
    arith,
    three 4 1 g 28,
    three 5 12 g 28,
    row_before 4 1 0 (omega arith),
    row_before 4 1 g (omega arith),
    row-behind 4 1 28 (omega arith),
    row_before 5 12 0 (omega arith),
    row_before 5 12 g (omega arith),
    row-behind 5 12 28 (omega arith),
  );
  refused = omega (
    arith,
    three 17 1 g 28,
    three 18 10 g 28,
    row_before 17 1 0 (omega arith),
    row_before 17 1 g (omega arith),
    row-behind 17 1 28 (omega arith),
    row_before 18 10 0 (omega arith),
    row_before 18 10 g (omega arith),
    row-behind 18 10 28 (omega arith),
  );
}

of-hit : (d : ℕ) → 5 ≤ d → d ≤ 16 → Sums (0 ∷ 4 ∷ d ∷ [])
of-hit d low high = record {
  blocks = omega (
    arith,
    three 0 1 4 d,
    three 1 4 4 d,
    three 17 1 4 d,
    block_0,
    row-behind 0 1 4 (omega arith),
    row-behind 0 1 d (omega arith),
    row_before 1 4 0 (omega arith),
    row-among 1 4 4 (omega arith) (omega arith),
    row-behind 1 4 d (omega arith),
    row_before 17 1 0 (omega arith),
    row_before 17 1 4 (omega arith),
    row_before 17 1 d (omega arith),
  );
  hits = omega (
    arith,
    three 4 1 4 d,
    three 5 12 4 d,
    row_before 4 1 0 (omega arith),
    row-among 4 1 4 (omega arith) (omega arith),
    row-behind 4 1 d (omega arith),
    row_before 5 12 0 (omega arith),
    row_before 5 12 4 (omega arith),
    row-among 5 12 d (omega arith) (omega arith),
  );
  refused = omega (
    arith,
    three 17 1 4 d,
    three 18 10 4 d,
    row_before 17 1 0 (omega arith),
    row_before 17 1 4 (omega arith),
    row_before 17 1 d (omega arith),
    row_before 18 10 0 (omega arith),
    row_before 18 10 4 (omega arith),
    row_before 18 10 d (omega arith),
  );
}

of-refusal : (d : ℕ) → 18 ≤ d → d ≤ 27 → Sums (0 ∷ 17 ∷ d ∷ [])
of-refusal d low high = record {
  blocks = omega (
    arith,
    three 0 1 17 d,
    three 1 4 17 d,
    three 17 1 17 d,
    block_0,
    row-behind 0 1 17 (omega arith),
    row-behind 0 1 d (omega arith),
    row_before 1 4 0 (omega arith),
    row-behind 1 4 17 (omega arith),
    row-behind 1 4 d (omega arith),
    row_before 17 1 0 (omega arith),
    row-among 17 1 17 (omega arith) (omega arith),
    row-behind 17 1 d (omega arith),
  );
  hits = omega (
    arith,
    three 4 1 17 d,
    three 5 12 17 d,
    row_before 4 1 0 (omega arith),
    row-behind 4 1 17 (omega arith),
    row-behind 4 1 d (omega arith),
    row_before 5 12 0 (omega arith),
    row-behind 5 12 17 (omega arith),
    row-behind 5 12 d (omega arith),
  );
  refused = omega (
    arith,
    three 17 1 17 d,
    three 18 10 17 d,
    row_before 17 1 0 (omega arith),
    row-among 17 1 17 (omega arith) (omega arith),
    row-behind 17 1 d (omega arith),
    row_before 18 10 0 (omega arith),
    row_before 18 10 17 (omega arith),
    row-among 18 10 d (omega arith) (omega arith),
  );
}

-- ---- answers
abbrev pub NumberGiven : BlockAnswer → Type 0
NumberGiven (Ok w) = Unit {0}
NumberGiven (Err r) = Given r.number

unfoldable pub NumbersGiven : List BlockAnswer → Type 0
NumbersGiven [] = Unit {0}
NumbersGiven (x ∷ xs) = NumberGiven x × NumbersGiven xs

refusal-rows : (n : ℕ) → Given n → (18 ≤ refusal_row n) × (refusal_row n ≤ 27)
unfolding refusal_row
refusal-rows n (least, most, not-12) = go (eqb n 13) (ltb n 3) (ltb n 12) refl refl refl
  where
    go : (s b u : Bool) → eqb n 13 ≡ s → ltb n 3 ≡ b → ltb n 12 ≡ u
        → (18 ≤ cond s 27 (cond b 28 (cond u (n + 15) 28))) × (cond s 27 (cond b 28 (cond u (n + 15) 28)) ≤ 27)
    go true b u e f g = (omega arith, omega arith)
    go false true u e f g = absurd (omega (arith, ltb-true n 3 f))
    go false false true e f g = (omega arith, omega (arith, ltb-true n 12 g))
    go false false false e f g = let apart = eqb-false n 13 e in absurd (omega (arith, ltb-false n 12 g, apart, not-12))

answer-sums : (x : BlockAnswer) → NumberGiven x → Sums (rows_of x)
answer-sums (Err r) h = let (low, high) = refusal-rows r.number h in of-refusal (refusal_row r.number) low high
answer-sums (Ok w) h = go w.verdict.status
  where
    go : (s : Status) → Sums (0 ∷ status_row s ∷ detail_by s w.verdict.contact.fraction ∷ [])
    go Overlapped = of-group 2 (omega arith) (omega arith)
    go Hit = let (low, high) = hit-rows w.verdict.contact.fraction in of-hit (hit_row w.verdict.contact.fraction) low high
    go Separated = of-group 1 (omega arith) (omega arith)
    go Failed = of-group 3 (omega arith) (omega arith)

nothing-sums : Sums []
unfolding sum_from times_in
nothing-sums = record { blocks = refl; hits = refl; refused = refl }

answers-sums : (xs : List BlockAnswer) → NumbersGiven xs → Sums (rows_in xs)
unfolding rows_in NumbersGiven
answers-sums [] h = nothing-sums
answers-sums (x ∷ xs) h = sums-append (rows_of x) (rows_in xs) (answer-sums x h.0) (answers-sums xs h.1)

-- ---- the report
rows-counted : (k n : ℕ) (rows : List ℕ) → k + n ≤ 28 → sum_from k n rows < 2 ^ 64 → sum_of_rows k n (tally rows) ≡ sum_from k n rows
unfolding sum_from sum_of_rows
rows-counted k zero rows h small = refl
rows-counted k (suc n) rows h small =
    let e : 0 + k ≡ k = omega arith in
    let here : get_or (tally rows) k 0 ≡ hold (times_in k rows) = rw e at (get_d-tally 0 28 rows k (omega arith)) in
    omega (arith, here, rows-counted (suc k) n rows (omega arith) (omega arith))

one-row : (k : ℕ) (counts : List ℕ) → sum_of_rows k 1 counts ≡ get_or counts k 0
unfolding sum_of_rows
one-row k counts = omega arith

first-row : (xs : List BlockAnswer) → length xs < 2 ^ 64 → sum_from 0 1 (rows_in xs) < 2 ^ 64
unfolding sum_from
first-row xs h = omega (arith, every-block xs)

group-4 : (rows : List ℕ) → sum_from 4 1 rows ≤ sum_from 1 4 rows
unfolding sum_from
group-4 rows = omega arith

pub counts-add-up : (bs : List (List BlockAnswer)) → NumbersGiven (every_answer bs) → length (every_answer bs) < 2 ^ 64 → AddsUp (report bs).counts
unfolding report
counts-add-up bs given few =
    let rows = rows_in (every_answer bs) in
    let s = answers-sums (every_answer bs) given in
    let all : sum_from 0 1 rows < 2 ^ 64 = first-row (every_answer bs) few in
    let split = group-4 rows in
    let b0 = rows-counted 0 1 rows (omega arith) all in
    let b1 = rows-counted 1 4 rows (omega arith) (omega (arith, s.blocks)) in
    let b17 = rows-counted 17 1 rows (omega arith) (omega (arith, s.blocks)) in
    let b4 = rows-counted 4 1 rows (omega arith) (omega (arith, s.blocks, split)) in
    let b5 = rows-counted 5 12 rows (omega arith) (omega (arith, s.blocks, s.hits, split)) in
    let b18 = rows-counted 18 10 rows (omega arith) (omega (arith, s.blocks, s.refused)) in
    let c = tally rows in
    record {
      blocks = omega (arith, s.blocks, b0, b1, b17, one-row 0 c, one-row 17 c);
      hits = omega (arith, s.hits, b4, b5, one-row 4 c);
      refused = omega (arith, s.refused, b17, b18, one-row 17 c);
    }
