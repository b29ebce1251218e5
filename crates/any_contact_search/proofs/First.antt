-- What the first contact's number says of the sheet: it is above 0 if and only if contact in TOTAL is, its line prints H or O, and no line before
-- it does. Assumes nothing.
use Rattle.std.proofs.Common.{Ok, Err}
use mathlib.Core.Path.{◌≡◌, refl, sym, ap, ◌∙◌}
use mathlib.Core.Bool.{Bool, true, false, cond, ◌||◌}
use mathlib.Core.List.{List, [], ◌∷◌, ◌++◌}
use Prim.Native.Nat.{ℕ, zero, suc, ◌+◌, ◌-◌, ◌/◌, ◌%◌, ◌≤◌, ◌<◌}
use native.Mathlib.Omega.{arith}
use borrow.Author.Tests.{ne_eqb}
use lib.Dec.{eqb}
use lib.Ieee.{Format}
use lib.ListN.{length, get_or}
use Rattle.model.specs.declared.Status.{Status}
use Rattle.model.specs.declared.Status.TheVariants.{Overlapped, Hit, Separated, Failed}
use Rattle.model.specs.declared.Totals.{Totals}
use Rattle.model.specs.Block.{block_size, refused}
use Rattle.model.specs.Sheet.{letter_of, answer_line, answers, whole_answers, rest_answer, none, one_worked, counted, totals_from}
use Rattle.model.specs.Counted.{after_blanks, lines_one_by_one, sheet_lines}
use Rattle.model.specs.Work.{BlockAnswer}
use Rattle.model.proofs.Counted.{letter_told, letter-printed, counted-on}
use Rattle.model.proofs.Sheet.{answers-cut}
use Rattle.any_contact_search.specs.First.{touches, is_contact, first_from, first_contact, prints_contact, FirstContact}

-- ---- one answer
-- its line prints H or O just where it is a contact
line-tells : (f : Format) (n : ℕ) (x : BlockAnswer) → prints_contact (answer_line f n x) ≡ is_contact x
line-tells f n (Err r) = rw (letter-printed f n (Err r))
line-tells f n (Ok w) = rw (letter-printed f n (Ok w)) (go w.verdict.status)
  where
    go : (s : Status) → (eqb (letter_of s) 72 || eqb (letter_of s) 79) ≡ touches s
    go Overlapped = refl
    go Hit = refl
    go Separated = refl
    go Failed = refl

-- the contacts counted after it
one-counted : (t : Totals) (x : BlockAnswer) → (counted t x).contact ≡ t.contact + cond (is_contact x) 1 0
one-counted t (Err r) = omega arith
one-counted t (Ok w) = go w.verdict.status
  where
    go : (s : Status) → (one_worked t s).contact ≡ t.contact + cond (touches s) 1 0
    go Overlapped = omega arith
    go Hit = omega arith
    go Separated = omega arith
    go Failed = omega arith

-- contacts are never taken back
no-fewer : (f : Format) (t : Totals) (xs : List BlockAnswer) → t.contact ≤ (totals_from t xs).contact
no-fewer f t xs = omega (arith, (counted-on f 0 t xs).contact)

-- ---- answers that follow n others, with the totals t before them
-- either no line prints H or O and contact stays, or line j, counted from 0, is the first that does and contact grows
pub data Told (f : Format) (n : ℕ) (t : Totals) (xs : List BlockAnswer) : Type 0 where
  nothing : first_from n xs ≡ 0 → (totals_from t xs).contact ≡ t.contact
      → ((i : ℕ) → prints_contact (get_or (lines_one_by_one f n xs) i []) ≡ false) → Told f n t xs
  found : (j : ℕ) → first_from n xs ≡ n + j + 1 → t.contact < (totals_from t xs).contact → j < length xs
      → prints_contact (get_or (lines_one_by_one f n xs) j []) ≡ true
      → ((i : ℕ) → i < j → prints_contact (get_or (lines_one_by_one f n xs) i []) ≡ false) → Told f n t xs

module _ (f : Format) (n : ℕ) (t : Totals) (x : BlockAnswer) (xs : List BlockAnswer) where
  -- a contact comes first
  is-first : is_contact x ≡ true → Told f n t (x ∷ xs)
  unfolding first_from totals_from lines_one_by_one
  is-first e =
      found 0 (rw e (omega arith)) (omega (arith, no-fewer f (counted t x) xs, rw e at (one-counted t x))) (omega arith) (line-tells f (n + 1) x ∙ e)
      (λ i below. absurd (omega arith))

  -- any other answer is passed over
  passed : is_contact x ≡ false → Told f (n + 1) (counted t x) xs → Told f n t (x ∷ xs)
  unfolding first_from totals_from lines_one_by_one
  passed e (nothing first same quiet) = nothing (rw e first) (omega (arith, same, rw e at (one-counted t x))) silent
    where
      silent : (i : ℕ) → prints_contact (get_or (lines_one_by_one f n (x ∷ xs)) i []) ≡ false
      silent zero = line-tells f (n + 1) x ∙ e
      silent (suc i) = quiet i
  passed e (found j first more inside loud quiet) =
      found (suc j) (rw e (omega (arith, first))) (omega (arith, more, rw e at (one-counted t x))) (omega (arith, inside)) loud silent
    where
      silent : (i : ℕ) → i < suc j → prints_contact (get_or (lines_one_by_one f n (x ∷ xs)) i []) ≡ false
      silent zero below = line-tells f (n + 1) x ∙ e
      silent (suc i) below = quiet i (omega arith)

pub told : (f : Format) (n : ℕ) (t : Totals) (xs : List BlockAnswer) → Told f n t xs
unfolding first_from totals_from lines_one_by_one after_blanks
told f n t [] = nothing refl refl (λ i. refl)
told f n t (x ∷ xs) = go (is_contact x) refl (told f (n + 1) (counted t x) xs)
  where
    go : (b : Bool) → is_contact x ≡ b → Told f (n + 1) (counted t x) xs → Told f n t (x ∷ xs)
    go true e rest = is-first f n t x xs e
    go false e rest = passed f n t x xs e rest

-- ---- every file
pub first-contact : (f : Format) (b : List ℕ) → FirstContact f b
first-contact f b = go (told f 0 none (answers f b))
  where
    go : Told f 0 none (answers f b) → FirstContact f b
    go (nothing first same quiet) = record {
      counted = λ h. absurd (omega (arith, first));
      told = λ h. absurd (omega (arith, same));
      inside = omega (arith, first);
      prints = λ i h. absurd (omega (arith, first));
      lowest = λ i h. absurd (omega (arith, first));
      none-prints = λ h. quiet;
    }
    go (found j first more inside loud quiet) = record {
      counted = λ h. more;
      told = λ h. omega (arith, first);
      inside = omega (arith, first, inside);
      prints = λ i h. let e : i ≡ j = omega (arith, first) in rw e loud;
      lowest = λ i h. quiet i (omega (arith, first));
      none-prints = λ h i. absurd (omega (arith, first));
    }

-- ---- answers in two parts
-- the second part counts where the first has no contact
pub first-append : (n : ℕ) (xs ys : List BlockAnswer) →
    first_from n (xs ++ ys) ≡ cond (eqb (first_from n xs) 0) (first_from (n + length xs) ys) (first_from n xs)
unfolding first_from
first-append n [] ys = let e : n + 0 ≡ n = omega arith in rw e
first-append n (x ∷ xs) ys = go (is_contact x) (first-append (n + 1) xs ys)
  where
    go : (c : Bool) → first_from (n + 1) (xs ++ ys) ≡ cond (eqb (first_from (n + 1) xs) 0) (first_from (n + 1 + length xs) ys) (first_from (n + 1) xs)
        → cond c (n + 1) (first_from (n + 1) (xs ++ ys))
        ≡ cond (eqb (cond c (n + 1) (first_from (n + 1) xs)) 0) (first_from (n + suc (length xs)) ys) (cond c (n + 1) (first_from (n + 1) xs))
    go true ih = rw (ne_eqb (n + 1) 0 (λ e. omega arith))
    go false ih = let e : n + suc (length xs) ≡ n + 1 + length xs = omega arith in rw e ih

-- a short rest is no contact
no-rest : (n rest : ℕ) → first_from n (rest_answer rest) ≡ 0
unfolding first_from
no-rest n rest = go (eqb rest 0)
  where
    go : (c : Bool) → first_from n (cond c [] (refused 0 9 ∷ [])) ≡ 0
    go true = refl
    go false = refl

or-zero : (k : ℕ) → cond (eqb k 0) 0 k ≡ k
or-zero zero = refl
or-zero (suc k) = rw (ne_eqb (suc k) 0 (λ e. omega arith))

-- so the whole blocks alone are looked at
pub rest-passed-over : (f : Format) (n : ℕ) (b : List ℕ) → first_from n (answers f b) ≡ first_from n (whole_answers f (length b / block_size) b)
rest-passed-over f n b =
    let xs = whole_answers f (length b / 512) b in
    rw (answers-cut f b, first-append n xs (rest_answer (length b % 512)), no-rest (n + length xs) (length b % 512)) (or-zero (first_from n xs))
