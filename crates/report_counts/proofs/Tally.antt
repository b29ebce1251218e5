-- Tallies of rows: one row more is one store, two tallies add up to that of both, and every answer is one block. Assumes nothing.
use Rattle.std.proofs.Common.{◌≡◌, ℕ, zero, suc, ◌+◌, ◌<◌, ◌≤◌, Bool, true, false, cond, eqb, ltb, List, [], ◌∷◌, ◌++◌, length, get_or, set, sym, refl, ap, ◌∙◌, append_assoc, append-nil, arith, ltb-false, eq-eqb, ne_eqb, Ok, Err}
use lib.Ieee.{Float, binary32, of_bits, lt, eq}
use Rattle.model.specs.declared.Status.{Status}
use Rattle.model.specs.declared.Status.TheVariants.{Overlapped, Hit, Separated, Failed}
use Rattle.model.specs.Work.{BlockAnswer}
use Rattle.report_counts.specs.Rows.{status_row, hit_row, refusal_row, detail_by, group_row, detail_row, rows_in, times_in}
use Rattle.report_counts.specs.Largest.{hold, plus}
use Rattle.report_counts.specs.Report.{tally_from, tally, bumped_all, sums}
use Rattle.report_counts.proofs.Held.{plus-held}

-- ---- how often a row comes
pub times-append : (i : ℕ) (ks ls : List ℕ) → times_in i (ks ++ ls) ≡ times_in i ks + times_in i ls
unfolding times_in
times-append i [] ls = omega arith
times-append i (k ∷ ks) ls = omega (arith, times-append i ks ls)

pub rows_append : (xs ys : List BlockAnswer) → rows_in (xs ++ ys) ≡ rows_in xs ++ rows_in ys
unfolding rows_in
rows_append [] ys = refl
rows_append (x ∷ xs) ys = ap (λ (l : List ℕ). 0 ∷ group_row x ∷ detail_row x ∷ l) (rows_append xs ys)

same_row : (rows : List ℕ) (i k : ℕ) → k ≡ i → times_in i (rows ++ (k ∷ [])) ≡ times_in i rows + 1
unfolding times_in
same_row rows i k e = times-append i rows (k ∷ []) ∙ rw (eq-eqb k i e)

other_row : (rows : List ℕ) (i k : ℕ) → (k ≡ i → ⊥) → times_in i (rows ++ (k ∷ [])) ≡ times_in i rows
unfolding times_in
other_row rows i k h = times-append i rows (k ∷ []) ∙ rw (ne_eqb k i h) (omega arith)

-- ---- tallies
pub length-tally : (k n : ℕ) (rows : List ℕ) → length (tally_from k n rows) ≡ n
unfolding tally_from
length-tally k zero rows = refl
length-tally k (suc n) rows = ap suc (length-tally (suc k) n rows)

pub get_d-tally : (k n : ℕ) (rows : List ℕ) (i : ℕ) → i < n → get_or (tally_from k n rows) i 0 ≡ hold (times_in (k + i) rows)
unfolding tally_from
get_d-tally k zero rows i h = absurd (omega arith)
get_d-tally k (suc n) rows zero h = let e : k ≡ k + 0 = omega arith in ap (λ (m : ℕ). hold (times_in m rows)) e
get_d-tally k (suc n) rows (suc i) h =
    let e : suc k + i ≡ k + suc i = omega arith in
    get_d-tally (suc k) n rows i (omega arith) ∙ ap (λ (m : ℕ). hold (times_in m rows)) e

pub sums-tally : (k n : ℕ) (ks ls : List ℕ) → sums (tally_from k n ks) (tally_from k n ls) ≡ tally_from k n (ks ++ ls)
unfolding tally_from sums
sums-tally k zero ks ls = refl
sums-tally k (suc n) ks ls =
    rw (plus-held (times_in k ks) (times_in k ls), times-append k ks ls, sums-tally (suc k) n ks ls)

-- a row before the first of a tally does not show in it
before-first : (k n r : ℕ) (rows : List ℕ) → r < k → tally_from k n (rows ++ (r ∷ [])) ≡ tally_from k n rows
unfolding tally_from
before-first k zero r rows h = refl
before-first k (suc n) r rows h = rw (other_row rows k r (λ e. omega arith), before-first (suc k) n r rows (omega arith))

bumped-from : (k n i : ℕ) (rows : List ℕ) →
    set (tally_from k n rows) i (plus (get_or (tally_from k n rows) i 0) 1) ≡ tally_from k n (rows ++ ((k + i) ∷ []))
unfolding tally_from
bumped-from k zero i rows = refl
bumped-from k (suc n) zero rows =
    let e : k + 0 ≡ k = omega arith in
    let one : plus (hold (times_in k rows)) 1 ≡ hold (times_in k rows + 1) = plus-held (times_in k rows) 1 in
    rw (e, same_row rows k k refl, before-first (suc k) n k rows (omega arith), one)
bumped-from k (suc n) (suc i) rows =
    let e : suc k + i ≡ k + suc i = omega arith in
    rw (other_row rows k (k + suc i) (λ p. omega arith), ← e) (ap (λ (l : List ℕ). hold (times_in k rows) ∷ l) (bumped-from (suc k) n i rows))

pub bumped-all : (ks rows : List ℕ) → bumped_all ks (tally rows) ≡ tally (rows ++ ks)
unfolding bumped_all
bumped-all [] rows = ap tally (sym (append-nil rows))
bumped-all (k ∷ ks) rows =
    let e : 0 + k ≡ k = omega arith in
    ap (bumped_all ks) (rw e at (bumped-from 0 28 k rows)) ∙ bumped-all ks (rows ++ (k ∷ [])) ∙ ap tally (append_assoc rows (k ∷ []) ks)

-- ---- every answer is one block
-- of what a test chooses
pub by-test : {A : Type 0} (P : A → Type 0) (t : Bool) (m n : A) → P m → P n → P (cond t m n)
by-test P true m n p q = p
by-test P false m n p q = q

-- the rows of hits by their fraction
abbrev Among : ℕ → Type 0
Among row = (5 ≤ row) × (row ≤ 16)

pub hit-rows : (t : Float) → (5 ≤ hit_row t) × (hit_row t ≤ 16)
unfolding hit_row
hit-rows t =
    by-test Among (lt t (of_bits binary32 0)) 14 _ (omega arith, omega arith)
    (by-test Among (lt t (of_bits binary32 0x3e00_0000)) 5 _ (omega arith, omega arith)
    (by-test Among (lt t (of_bits binary32 0x3e80_0000)) 6 _ (omega arith, omega arith)
    (by-test Among (lt t (of_bits binary32 0x3ec0_0000)) 7 _ (omega arith, omega arith)
    (by-test Among (lt t (of_bits binary32 0x3f00_0000)) 8 _ (omega arith, omega arith)
    (by-test Among (lt t (of_bits binary32 0x3f20_0000)) 9 _ (omega arith, omega arith)
    (by-test Among (lt t (of_bits binary32 0x3f40_0000)) 10 _ (omega arith, omega arith)
    (by-test Among (lt t (of_bits binary32 0x3f60_0000)) 11 _ (omega arith, omega arith)
    (by-test Among (lt t (of_bits binary32 0x3f80_0000)) 12 _ (omega arith, omega arith)
    (by-test Among (eq t (of_bits binary32 0x3f80_0000)) 13 _ (omega arith, omega arith)
    (by-test Among (lt (of_bits binary32 0x3f80_0000) t) 15 16 (omega arith, omega arith) (omega arith, omega arith)))))))))))

-- no row of a group or of a detail is the first
pub refusal-past : (n : ℕ) → 17 < refusal_row n
unfolding refusal_row
refusal-past n = go (eqb n 13) (ltb n 3) (ltb n 12) refl
  where
    go : (s b u : Bool) → ltb n 3 ≡ b → 17 < cond s 27 (cond b 28 (cond u (n + 15) 28))
    go true b u e = omega arith
    go false true u e = omega arith
    go false false true e = omega (arith, ltb-false n 3 e)
    go false false false e = omega arith

later : (x : BlockAnswer) → (0 < group_row x) × (0 < detail_row x)
later (Err r) = (omega arith, omega (arith, refusal-past r.number))
later (Ok w) = go w.verdict.status
  where
    go : (s : Status) → (0 < status_row s) × (0 < detail_by s w.verdict.contact.fraction)
    go Overlapped = (omega arith, omega arith)
    go Hit = (omega arith, omega (arith, (hit-rows w.verdict.contact.fraction).0))
    go Separated = (omega arith, omega arith)
    go Failed = (omega arith, omega arith)

pub every-block : (xs : List BlockAnswer) → times_in 0 (rows_in xs) ≡ length xs
unfolding times_in rows_in
every-block [] = refl
every-block (x ∷ xs) =
    let (group, detail) = later x in
    rw (ne_eqb (group_row x) 0 (λ e. omega arith), ne_eqb (detail_row x) 0 (λ e. omega arith)) (omega (arith, every-block xs))
