-- The report's rows of hits and refusals and its three largest counts are what a reader finds on the printed lines. Assumes nothing.
use Rattle.std.proofs.Common.{Ok, Err, Option, None}
use mathlib.Core.Path.{◌≡◌, refl, sym, ap, ◌∙◌}
use mathlib.Core.Bool.{Bool, true, false, cond, ◌&&◌}
use mathlib.Core.List.{List, [], ◌∷◌, ◌++◌, map, map-append}
use mathlib.Core.Logic.{◌⊎◌, inl, inr, ⊎_elim}
use Prim.Native.Nat.{ℕ, suc, ◌+◌, ◌^◌, ◌≤◌, ◌<◌}
use native.Mathlib.Omega.{arith}
use native.Mathlib.Nat.{mod-eq_of_lt}
use borrow.Author.Tests.{lt-ltb, le-ltb, eq-eqb, ne_eqb, eqb-true, eqb-false}
use lib.Dec.{T, eqb, ltb}
use lib.Ieee.{Float, binary32, of_bits, to_bits, fits}
use lib.Ieee.Bits.{of_bits-to_bits, to_bits-lt}
use lib.ListN.{length, get_or, length-append, length-map, get_or-map}
use Rattle.model.specs.declared.Status.{Status}
use Rattle.model.specs.declared.Status.TheVariants.{Overlapped, Hit, Separated, Failed}
use Rattle.model.specs.declared.Counts.{Counts}
use Rattle.model.specs.declared.Verdict.{Verdict}
use Rattle.model.specs.Text.{decimal, hex_by}
use Rattle.model.specs.Sheet.{letter_of, worked_fields, corner_fields, worked_line, refused_line, answer_line, answers}
use Rattle.model.specs.Counted.{lines_one_by_one, sheet_lines}
use Rattle.model.specs.Block.{refused}
use Rattle.model.specs.Work.{BlockAnswer}
use Rattle.model.proofs.Counted.{letter-printed, a-line-each}
use Rattle.model.proofs.SweepToi.{at-most-160-searches, at-most-8000-root-steps}
use Rattle.text.proofs.ReadBack.{Digits, decimal-digits, hex-digits}
use Rattle.numerals.specs.Numerals.{said_from, word_from}
use Rattle.numerals.proofs.Numerals.{print-says, hex-says}
use Rattle.report_counts.specs.declared.most.Most.{Most}
use Rattle.report_counts.specs.Rows.{status_row, hit_row, refusal_row, detail_by, detail_row, rows_of, rows_in, times_in}
use Rattle.report_counts.specs.Largest.{hold}
use Rattle.report_counts.specs.Report.{every_answer, report}
use Rattle.report_counts.proofs.Tally.{times-append, rows_append, get_d-tally, hit-rows, refusal-past}
use Rattle.report_batches.specs.Batches.{answers_of}
use Rattle.report_batches.proofs.AsSheet.{all_lines}
use Rattle.report_batches.specs.Told.{Given, Place, in_batch, in_batches, shown_at, Told, Firsts, calls_of, searches_of, steps_of}
use Rattle.report_batches.specs.Told as OfPlaces
use Rattle.report_batches.proofs.Firsts.{firsts}
use Rattle.report_from_lines.specs.Printed.{field_at, number_at, block_printed, refusal_printed, fraction_printed, count_of, is_hit_in, is_refused_by}
use Rattle.report_from_lines.specs.Printed.{Printed, on_sheet, printed_behind, shows, FirstLargest, none, first, FromLines}
use Rattle.report_from_lines.proofs.Fields.{Each, field_is}
use Rattle.report_from_lines.proofs.Worked.{Small, Fair, EachFair, file-fair}

-- ---- the fields of an answer's line
letter-is-plain : (s : Status) → Digits (letter_of s ∷ [])
unfolding Digits
letter-is-plain Overlapped = (omega arith, tt)
letter-is-plain Hit = (omega arith, tt)
letter-is-plain Separated = (omega arith, tt)
letter-is-plain Failed = (omega arith, tt)

float-is-plain : (x : Float) → Digits (hex_by 8 (to_bits binary32 x))
float-is-plain x = hex-digits 8 (to_bits binary32 x)

zero-is-plain : Digits (48 ∷ [])
unfolding Digits
zero-is-plain = (omega arith, tt)

module _ (n job : ℕ) (v : Verdict) where
  fields-plain : Each (worked_fields binary32 n job v)
  unfolding Each
  fields-plain =
      let c = v.contact in
      let m = v.counts in (
        decimal-digits 20 n,
        (
          decimal-digits 20 job,
          (
            zero-is-plain,
            (
              letter-is-plain v.status,
              (
                float-is-plain c.fraction,
                (
                  float-is-plain c.point.x,
                  (
                    float-is-plain c.point.y,
                    (
                      float-is-plain c.normal.x,
                      (
                        float-is-plain c.normal.y,
                        (
                          decimal-digits 20 m.distance_calls,
                          (
                            decimal-digits 20 m.searches,
                            (decimal-digits 20 m.root_steps, tt),
                          ),
                        ),
                      ),
                    ),
                  ),
                ),
              ),
            ),
          ),
        ),
      )

  worked-field : (k : ℕ) → k < 12 → field_at k (worked_line binary32 n job v) ≡ get_or (worked_fields binary32 n job v) k []
  unfolding worked_line
  worked-field k inside = field_is (worked_fields binary32 n job v) (corner_fields v.corners) k fields-plain inside

refused-field : (n job number k : ℕ) → k < 3 → field_at k (refused_line n job number) ≡ get_or (decimal n ∷ decimal job ∷ decimal number ∷ []) k []
unfolding refused_line Each
refused-field n job number k inside =
    field_is (decimal n ∷ decimal job ∷ decimal number ∷ []) [] k
    (decimal-digits 20 n, (decimal-digits 20 job, (decimal-digits 20 number, tt))) inside

fraction-printed : (n job : ℕ) (v : Verdict) → T (fits binary32 v.contact.fraction) →
    fraction_printed (worked_line binary32 n job v) ≡ v.contact.fraction
fraction-printed n job v fit =
    let t = v.contact.fraction in
    ap (λ (l : List ℕ). of_bits binary32 (word_from 0 l)) (worked-field n job v 4 (omega arith))
    ∙ ap (of_bits binary32) (hex-says 8 (to_bits binary32 t) (to_bits-lt binary32 t fit))
    ∙ of_bits-to_bits binary32 t fit

number-printed : (n job : ℕ) (v : Verdict) (k m : ℕ) → k < 12 → get_or (worked_fields binary32 n job v) k [] ≡ decimal m → m < 18446744073709551616 →
    number_at k (worked_line binary32 n job v) ≡ m
number-printed n job v k m inside e small =
    ap (said_from 0) (worked-field n job v k inside ∙ e) ∙ print-says 20 m (omega arith)

refusal-printed : (n job number : ℕ) → number ≤ 13 → refusal_printed (refused_line n job number) ≡ number
refusal-printed n job number small = ap (said_from 0) (refused-field n job number 2 (omega arith)) ∙ print-says 20 number (omega arith)

-- ---- one line: a hit
once : (row k : ℕ) (ks : List ℕ) → (k ≡ row → ⊥) → times_in row (k ∷ ks) ≡ times_in row ks
unfolding times_in
once row k ks apart = rw (ne_eqb k row apart) (omega arith)

alone : (row d : ℕ) → times_in row (d ∷ []) ≡ cond (eqb d row) 1 0
unfolding times_in
alone row d = omega arith

detail-alone : (row g d : ℕ) → 5 ≤ row → (g ≡ row → ⊥) → times_in row (0 ∷ g ∷ d ∷ []) ≡ cond (eqb d row) 1 0
detail-alone row g d low apart = once row 0 (g ∷ d ∷ []) (λ e. omega arith) ∙ once row g (d ∷ []) apart ∙ alone row d

hit-agrees : (row : ℕ) → 5 ≤ row → row ≤ 16 → (n : ℕ) (x : BlockAnswer) → Fair x → times_in row (rows_of x) ≡ cond (is_hit_in row (answer_line binary32 n x)) 1 0
hit-agrees row low high n (Ok w) h =
    rw (letter-printed binary32 n (Ok w), fraction-printed n w.job w.verdict h.fitting) (go w.verdict.status)
  where
    go : (s : Status) → times_in row (0 ∷ status_row s ∷ detail_by s w.verdict.contact.fraction ∷ [])
        ≡ cond (eqb (letter_of s) 72 && eqb (hit_row w.verdict.contact.fraction) row) 1 0
    go Overlapped = detail-alone row 2 28 low (λ e. omega arith) ∙ rw (ne_eqb 28 row (λ e. omega arith))
    go Hit = detail-alone row 4 (hit_row w.verdict.contact.fraction) low (λ e. omega arith)
    go Separated = detail-alone row 1 28 low (λ e. omega arith) ∙ rw (ne_eqb 28 row (λ e. omega arith))
    go Failed = detail-alone row 3 28 low (λ e. omega arith) ∙ rw (ne_eqb 28 row (λ e. omega arith))
hit-agrees row low high n (Err r) h =
    rw (letter-printed binary32 n (Err r))
    (detail-alone row 17 (refusal_row r.number) low (λ e. omega arith)
    ∙ rw (ne_eqb (refusal_row r.number) row (λ e. omega (arith, refusal-past r.number))))

-- ---- one line: a refusal
row_is : (n : ℕ) → Given n → refusal_row n ≡ cond (eqb n 13) 27 (n + 15)
unfolding refusal_row
row_is n (low, high, apart) = go (eqb n 13) refl
  where
    go : (t : Bool) → eqb n 13 ≡ t → cond t 27 (cond (ltb n 3) 28 (cond (ltb n 12) (n + 15) 28)) ≡ cond t 27 (n + 15)
    go true e = refl
    go false e =
        let other = eqb-false n 13 e in
        rw (le-ltb n 3 low, lt-ltb n 12 (omega (arith, other, apart)))

row-range : (n : ℕ) → Given n → (18 ≤ refusal_row n) × (refusal_row n ≤ 27)
row-range n g = rw (row_is n g) (go (eqb n 13) refl)
  where
    go : (t : Bool) → eqb n 13 ≡ t → (18 ≤ cond t 27 (n + 15)) × (cond t 27 (n + 15) ≤ 27)
    go true e = (omega arith, omega arith)
    go false e = let other = eqb-false n 13 e in (omega (arith, g.0), omega (arith, g.1, g.2, other))

row-once : (m n : ℕ) → Given m → Given n → refusal_row m ≡ refusal_row n → m ≡ n
row-once m n g h e = go (eqb m 13) (eqb n 13) refl refl (sym (row_is m g) ∙ e ∙ row_is n h)
  where
    go : (s t : Bool) → eqb m 13 ≡ s → eqb n 13 ≡ t → cond s 27 (m + 15) ≡ cond t 27 (n + 15) → m ≡ n
    go true true p q r = eqb-true m 13 p ∙ sym (eqb-true n 13 q)
    go true false p q r = absurd (omega (arith, h.2, r))
    go false true p q r = absurd (omega (arith, g.2, r))
    go false false p q r = omega (arith, r)

same_test : (m n : ℕ) → Given m → Given n → eqb (refusal_row m) (refusal_row n) ≡ eqb m n
same_test m n g h = go (eqb m n) refl
  where
    go : (t : Bool) → eqb m n ≡ t → eqb (refusal_row m) (refusal_row n) ≡ t
    go true e = eq-eqb (refusal_row m) (refusal_row n) (ap refusal_row (eqb-true m n e))
    go false e = ne_eqb (refusal_row m) (refusal_row n) (λ r. eqb-false m n e (row-once m n g h r))

detail-small : (s : Status) (t : Float) → (detail_by s t ≤ 16) ⊎ (detail_by s t ≡ 28)
detail-small Overlapped t = inr refl
detail-small Hit t = inl (hit-rows t).1
detail-small Separated t = inr refl
detail-small Failed t = inr refl

status-small : (s : Status) → status_row s ≤ 4
status-small Overlapped = omega arith
status-small Hit = omega arith
status-small Separated = omega arith
status-small Failed = omega arith

refusal-agrees : (k : ℕ) → Given k → (n : ℕ) (x : BlockAnswer) → Fair x → times_in (refusal_row k) (rows_of x) ≡ cond (is_refused_by k (answer_line binary32 n x)) 1 0
unfolding said_from
refusal-agrees k g n (Ok w) h =
    let range = row-range k g in
    let none : refusal_printed (worked_line binary32 n w.job w.verdict) ≡ 0 = ap (said_from 0) (worked-field n w.job w.verdict 2 (omega arith)) in
    let group : status_row w.verdict.status ≡ refusal_row k → ⊥ = λ e. omega (arith, range.0, status-small w.verdict.status) in
    let detail : detail_row (Ok w) ≡ refusal_row k → ⊥ =
    λ e. ⊎_elim (λ p. omega (arith, p, e, range.0)) (λ p. omega (arith, p, e, range.1)) (detail-small w.verdict.status w.verdict.contact.fraction) in
    rw (none, ne_eqb 0 k (λ e. omega (arith, g.0, e)))
    (detail-alone (refusal_row k) (status_row w.verdict.status) (detail_row (Ok w)) (omega (arith, range.0)) group
    ∙ rw (ne_eqb (detail_row (Ok w)) (refusal_row k) detail))
refusal-agrees k g n (Err r) h =
    let range = row-range k g in
    rw (refusal-printed n r.job r.number h.1)
    (detail-alone (refusal_row k) 17 (refusal_row r.number) (omega (arith, range.0)) (λ e. omega (arith, range.0, e))
    ∙ ap (λ (t : Bool). cond t 1 0) (same_test r.number k h g))

-- ---- the lines of a file, and of files
module _ (row : ℕ) (p : List ℕ → Bool) (agrees : (n : ℕ) (x : BlockAnswer) → Fair x → times_in row (rows_of x) ≡ cond (p (answer_line binary32 n x)) 1 0) where
  lines-counted : (n : ℕ) (xs : List BlockAnswer) → EachFair xs → times_in row (rows_in xs) ≡ count_of p (lines_one_by_one binary32 n xs)
  unfolding times_in rows_in count_of lines_one_by_one EachFair
  lines-counted n [] h = refl
  lines-counted n (x ∷ xs) h =
      omega (arith, agrees (n + 1) x h.0, times-append row (rows_of x) (rows_in xs), lines-counted (n + 1) xs h.1)

  count-append : (ls ms : List (List ℕ)) → count_of p (ls ++ ms) ≡ count_of p ls + count_of p ms
  unfolding count_of
  count-append [] ms = omega arith
  count-append (l ∷ ls) ms = omega (arith, count-append ls ms)

  files-counted : (files : List (List ℕ)) → times_in row (rows_in (every_answer (answers_of files))) ≡ count_of p (all_lines files)
  unfolding every_answer answers_of all_lines rows_in times_in count_of
  files-counted [] = refl
  files-counted (b ∷ bs) =
      rw (rows_append (answers binary32 b) (every_answer (answers_of bs))) (omega (
        arith,
        times-append row (rows_in (answers binary32 b)) (rows_in (every_answer (answers_of bs))),
        count-append (sheet_lines binary32 b) (all_lines bs),
        lines-counted 0 (answers binary32 b) (file-fair b),
        files-counted bs,
      ))

  count-at-most : (ls : List (List ℕ)) → count_of p ls ≤ length ls
  unfolding count_of
  count-at-most [] = omega arith
  count-at-most (l ∷ ls) = go (p l) (count-at-most ls)
    where
      go : (t : Bool) → count_of p ls ≤ length ls → cond t 1 0 + count_of p ls ≤ suc (length ls)
      go true h = omega arith
      go false h = omega arith

  row-counted : (files : List (List ℕ)) → row < 28 → length (all_lines files) < 2 ^ 64
      → get_or (report (answers_of files)).counts row 0 ≡ count_of p (all_lines files)
  unfolding report
  row-counted files inside few =
      let e : 0 + row ≡ row = omega arith in
      let small : count_of p (all_lines files) < 2 ^ 64 = omega (arith, count-at-most (all_lines files)) in
      rw e at (get_d-tally 0 28 (rows_in (every_answer (answers_of files))) row inside) ∙ ap hold (files-counted files) ∙ mod-eq_of_lt small

-- ---- the largest counts
-- of what lines show, as of what places show
shown-at : (which : Counts → ℕ) (ps : List Place) (k : ℕ)
    → get_or (map (shown_at which) ps) k None ≡ shown_at which (get_or ps k (record { batch = 0; block = 0; answer = refused 0 0 }))
shown-at which ps k = get_or-map (shown_at which) ps k (record { batch = 0; block = 0; answer = refused 0 0 })

told-first : (which : Counts → ℕ) (ps : List Place) (m : Option Most) → Told which ps m → FirstLargest (map (shown_at which) ps) m
told-first which ps m (OfPlaces.none is quiet) = none is (λ k. shown-at which ps k ∙ quiet k)
told-first which ps m (OfPlaces.first k n i j is inside here most less) =
    first k n i j is (rw (length-map ps (shown_at which)) inside) (shown-at which ps k ∙ here) (λ l. rw (shown-at which ps l) (most l))
    (λ l before. rw (shown-at which ps l) (less l before))

-- a field that says a count of every worked block
abbrev Says : ℕ → (Counts → ℕ) → Type 0
Says k which = (n job : ℕ) (v : Verdict) → Small v.counts v.contact.fraction → number_at k (worked_line binary32 n job v) ≡ which v.counts

calls-said : Says 9 calls_of
calls-said n job v h = number-printed n job v 9 v.counts.distance_calls (omega arith) refl (omega (arith, h.bounded.few-calls))

searches-said : Says 10 searches_of
searches-said n job v h =
    number-printed n job v 10 v.counts.searches (omega arith) refl (omega (arith, at-most-160-searches v.counts h.bounded))

steps-said : Says 11 steps_of
steps-said n job v h =
    number-printed n job v 11 v.counts.root_steps (omega arith) refl (omega (arith, at-most-8000-root-steps v.counts h.bounded))

letter-is-some : (s : Status) → eqb (letter_of s) 0 ≡ false
letter-is-some Overlapped = refl
letter-is-some Hit = refl
letter-is-some Separated = refl
letter-is-some Failed = refl

abbrev placed : ℕ → ℕ → BlockAnswer → Place
placed i j x = record { batch = i; block = j; answer = x }

abbrev printed : ℕ → List ℕ → Printed
printed i l = record { sheet = i; line = l }

module _ (k : ℕ) (which : Counts → ℕ) (says : Says k which) where
  line-shows : (i n : ℕ) (x : BlockAnswer) → Fair x → i < 2 ^ 64 → n < 2 ^ 64 → shown_at which (placed i n x) ≡ shows k (printed i (answer_line binary32 n x))
  line-shows i n (Ok w) h few small =
      let number : block_printed (worked_line binary32 n w.job w.verdict) ≡ n = number-printed n w.job w.verdict 0 n (omega arith) refl (omega arith) in
      let sheet : hold i ≡ i = mod-eq_of_lt few in
      let block : hold n ≡ n = mod-eq_of_lt small in
      rw (letter-printed binary32 n (Ok w), letter-is-some w.verdict.status, says n w.job w.verdict h, number, sheet, block)
  line-shows i n (Err r) h few small = rw (letter-printed binary32 n (Err r))

  sheet-shows : (i n : ℕ) (xs : List BlockAnswer) → EachFair xs → i < 2 ^ 64 → n + length xs < 2 ^ 64
      → map (shown_at which) (in_batch i n xs) ≡ map (shows k) (on_sheet i (lines_one_by_one binary32 n xs))
  unfolding in_batch on_sheet lines_one_by_one EachFair
  sheet-shows i n [] h few small = refl
  sheet-shows i n (x ∷ xs) h few small =
      ap (λ (m : Option Most). m ∷ map (shown_at which) (in_batch i (n + 1) xs)) (line-shows i (n + 1) x h.0 few (omega arith))
      ∙ ap (λ (ms : List (Option Most)). shows k (printed i (answer_line binary32 (n + 1) x)) ∷ ms) (sheet-shows i (n + 1) xs h.1 few (omega arith))

  files-show : (i : ℕ) (files : List (List ℕ)) → i + length files < 2 ^ 64 → length (all_lines files) < 2 ^ 64
      → map (shown_at which) (in_batches i (answers_of files)) ≡ map (shows k) (printed_behind i files)
  unfolding in_batches answers_of printed_behind all_lines
  files-show i [] few small = refl
  files-show i (b ∷ bs) few small =
      let xs = answers binary32 b in
      let all : length (sheet_lines binary32 b) + length (all_lines bs) < 2 ^ 64 = rw (length-append (sheet_lines binary32 b) (all_lines bs)) at small in
      let each : length (sheet_lines binary32 b) ≡ length xs = a-line-each binary32 0 xs in
      map-append (shown_at which) (in_batch (i + 1) 0 xs) (in_batches (i + 1) (answers_of bs))
      ∙ ap (λ (ms : List (Option Most)). ms ++ map (shown_at which) (in_batches (i + 1) (answers_of bs)))
      (sheet-shows (i + 1) 0 xs (file-fair b) (omega arith) (omega (arith, all, each)))
      ∙ ap (λ (ms : List (Option Most)). map (shows k) (on_sheet (i + 1) (sheet_lines binary32 b)) ++ ms) (files-show (i + 1) bs (omega arith) (omega (arith, all)))
      ∙ sym (map-append (shows k) (on_sheet (i + 1) (sheet_lines binary32 b)) (printed_behind (i + 1) bs))

  largest-shown : (files : List (List ℕ)) (m : Option Most) → length files < 2 ^ 64 → length (all_lines files) < 2 ^ 64 → Told which (in_batches 0 (answers_of files)) m
      → FirstLargest (map (shows k) (printed_behind 0 files)) m
  largest-shown files m few small told = rw (← files-show 0 files (omega arith) small) (told-first which (in_batches 0 (answers_of files)) m told)

-- ---- the report
pub report-from-lines : (files : List (List ℕ)) → length files < 2 ^ 64 → length (all_lines files) < 2 ^ 64 →
    FromLines (all_lines files) (printed_behind 0 files) (report (answers_of files))
report-from-lines files few small =
    let f : Firsts (answers_of files) (report (answers_of files)).largest = firsts (answers_of files) in
    record {
      hits = λ row low high. row-counted row (is_hit_in row) (hit-agrees row low high) files (omega arith) small;
      refusals = λ n given. row-counted (refusal_row n) (is_refused_by n) (refusal-agrees n given) files (omega (arith, (row-range n given).1)) small;
      calls = largest-shown 9 calls_of calls-said files (report (answers_of files)).largest.calls few small f.calls;
      searches = largest-shown 10 searches_of searches-said files (report (answers_of files)).largest.searches few small f.searches;
      steps = largest-shown 11 steps_of steps-said files (report (answers_of files)).largest.steps few small f.steps;
    }
