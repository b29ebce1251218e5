-- Each total is what a reader counts from the printed lines: clear the lines with S, contact those with H or O, undecided those with F, refused
-- those without a letter, a short rest's among them. Assumes nothing.
use Rattle.std.proofs.Common.{Ok, Err}
use mathlib.Core.Path.{◌≡◌, refl, sym, ap, ◌∙◌}
use mathlib.Core.Bool.{Bool, true, false, cond}
use mathlib.Core.List.{List, [], ◌∷◌, ◌++◌, append_assoc}
use Prim.Native.Nat.{ℕ, zero, suc, ◌+◌, ◌/◌, ◌%◌, ◌≤◌}
use native.Mathlib.Omega.{arith}
use borrow.Author.Tests.{ne_eqb}
use lib.Dec.{eqb, ltb}
use lib.Ieee.{Format}
use lib.ListN.{length, get_or}
use Rattle.model.specs.declared.Status.{Status}
use Rattle.model.specs.declared.Status.TheVariants.{Overlapped, Hit, Separated, Failed}
use Rattle.model.specs.declared.Verdict.{Verdict}
use Rattle.model.specs.declared.Totals.{Totals}
use Rattle.model.specs.Text.{decimal_by, decimal, line}
use Rattle.model.specs.Sheet.{letter_of, answer_line, worked_line, refused_line, answers, lines_from, none, one_worked, counted, totals_from, total_line, sheet}
use Rattle.model.specs.Counted.{after_blanks, printed_letter, lines_one_by_one, sheet_lines, how_many}
use Rattle.model.specs.Parts.{together}
use Rattle.model.specs.Work.{BlockAnswer}

-- ---- the letter of a line
-- no byte is a blank
unfoldable NoBlank : List ℕ → Type 0
NoBlank [] = Unit {0}
NoBlank (x ∷ l) = (eqb x 32 ≡ false) × NoBlank l

no-blanks : (l r : List ℕ) → NoBlank l → NoBlank r → NoBlank (l ++ r)
unfolding NoBlank
no-blanks [] r p q = q
no-blanks (x ∷ l) r p q = (p.0, no-blanks l r p.1 q)

digit : (d : ℕ) → NoBlank ((48 + d) ∷ [])
unfolding NoBlank
digit d = (ne_eqb (48 + d) 32 (λ e. omega arith), tt)

one_digit_more : (b : Bool) (n d : ℕ) (l : List ℕ) → NoBlank l → NoBlank (cond b ((48 + n) ∷ []) (l ++ ((48 + d) ∷ [])))
one_digit_more true n d l h = digit n
one_digit_more false n d l h = no-blanks l _ h (digit d)

decimal-has-none : (k n : ℕ) → NoBlank (decimal_by k n)
unfolding decimal_by NoBlank
decimal-has-none zero n = tt
decimal-has-none (suc k) n = one_digit_more (ltb n 10) n (n % 10) (decimal_by k (n / 10)) (decimal-has-none k (n / 10))

past-field : (k : ℕ) (l r : List ℕ) → NoBlank l → after_blanks (suc k) (l ++ (32 ∷ r)) ≡ after_blanks k r
unfolding after_blanks NoBlank
past-field k [] r p = refl
past-field k (x ∷ l) r p = rw p.0 (past-field k l r p.1)

past_all : (k : ℕ) (l : List ℕ) → NoBlank l → after_blanks (suc k) l ≡ []
unfolding after_blanks NoBlank
past_all k [] p = refl
past_all k (x ∷ l) p = rw p.0 (past_all k l p.1)

last-field : (n : ℕ) → NoBlank (decimal n ++ (10 ∷ []))
unfolding NoBlank
last-field n = no-blanks (decimal n) (10 ∷ []) (decimal-has-none 20 n) (refl, tt)

-- 0 for a refused block
abbrev pub letter_told : BlockAnswer → ℕ
letter_told (Ok w) = letter_of w.verdict.status
letter_told (Err r) = 0

pub letter-printed : (f : Format) (n : ℕ) (x : BlockAnswer) → printed_letter (answer_line f n x) ≡ letter_told x
unfolding worked_line refused_line line after_blanks
letter-printed f n (Ok w) =
    rw (past-field 2 (decimal n) _ (decimal-has-none 20 n), past-field 1 (decimal w.job) _ (decimal-has-none 20 w.job))
letter-printed f n (Err r) =
    rw (past-field 2 (decimal n) _ (decimal-has-none 20 n), past-field 1 (decimal r.job) _ (decimal-has-none 20 r.job), past_all 0 _ (last-field r.number))

-- ---- the lines of a sheet
pub lines-joined : (f : Format) (n : ℕ) (xs : List BlockAnswer) → together (lines_one_by_one f n xs) ≡ lines_from f n xs
unfolding together lines_one_by_one lines_from
lines-joined f n [] = refl
lines-joined f n (x ∷ xs) = ap (λ (l : List ℕ). answer_line f (n + 1) x ++ l) (lines-joined f (n + 1) xs)

pub a-line-each : (f : Format) (n : ℕ) (xs : List BlockAnswer) → length (lines_one_by_one f n xs) ≡ length xs
unfolding lines_one_by_one
a-line-each f n [] = refl
a-line-each f n (x ∷ xs) = ap suc (a-line-each f (n + 1) xs)

-- ---- the totals
-- the totals are those before, with the lines counted on by their letters
pub record CountedOn (before after : Totals) (lines : List (List ℕ)) : Type 0 where
  pub blocks : after.blocks ≡ before.blocks + length lines
  pub clear : after.clear ≡ before.clear + how_many 83 lines
  pub contact : after.contact ≡ before.contact + how_many 72 lines + how_many 79 lines
  pub undecided : after.undecided ≡ before.undecided + how_many 70 lines
  pub refused : after.refused ≡ before.refused + how_many 0 lines

one_more : (t : Totals) (l : List ℕ) (x : BlockAnswer) → printed_letter l ≡ letter_told x → CountedOn t (counted t x) (l ∷ [])
unfolding how_many
one_more t l (Err r) e = record
    { blocks = omega arith; clear = rw e (omega arith); contact = rw e (omega arith); undecided = rw e (omega arith); refused = rw e (omega arith) }
one_more t l (Ok w) e = go w.verdict.status e
  where
    go : (s : Status) → printed_letter l ≡ letter_of s → CountedOn t (one_worked t s) (l ∷ [])
    go Overlapped e = record {
      blocks = omega arith;
      clear = rw e (omega arith);
      contact = rw e (omega arith);
      undecided = rw e (omega arith);
      refused = rw e
          (omega arith);
    }
    go Hit e = record {
      blocks = omega arith;
      clear = rw e (omega arith);
      contact = rw e (omega arith);
      undecided = rw e (omega arith);
      refused = rw e
          (omega arith);
    }
    go Separated e = record {
      blocks = omega arith;
      clear = rw e (omega arith);
      contact = rw e (omega arith);
      undecided = rw e (omega arith);
      refused = rw e
          (omega arith);
    }
    go Failed e = record {
      blocks = omega arith;
      clear = rw e (omega arith);
      contact = rw e (omega arith);
      undecided = rw e (omega arith);
      refused = rw e
          (omega arith);
    }

and_then : (t u w : Totals) (l : List ℕ) (r : List (List ℕ)) → CountedOn t u (l ∷ []) → CountedOn u w r → CountedOn t w (l ∷ r)
unfolding how_many
and_then t u w l r p q = record {
  blocks = omega (arith, p.blocks, q.blocks);
  clear = omega (arith, p.clear, q.clear);
  contact = omega (arith, p.contact, q.contact);
  undecided = omega (arith, p.undecided, q.undecided);
  refused = omega (arith, p.refused, q.refused);
}

pub counted-on : (f : Format) (n : ℕ) (t : Totals) (xs : List BlockAnswer) → CountedOn t (totals_from t xs) (lines_one_by_one f n xs)
unfolding totals_from lines_one_by_one how_many
counted-on f n t [] = record { blocks = omega arith; clear = omega arith; contact = omega arith; undecided = omega arith; refused = omega arith }
counted-on f n t (x ∷ xs) =
    and_then t (counted t x) (totals_from (counted t x) xs) (answer_line f (n + 1) x) (lines_one_by_one f (n + 1) xs)
    (one_more t (answer_line f (n + 1) x) x (letter-printed f (n + 1) x)) (counted-on f (n + 1) (counted t x) xs)

-- ---- the sheet of every file: its lines, one for each answer, and the totals counted from them
pub record SheetCounted (f : Format) (b : List ℕ) : Type 0 where
  pub text : sheet f b ≡ together (sheet_lines f b) ++ total_line (totals_from none (answers f b))
  pub totals : CountedOn none (totals_from none (answers f b)) (sheet_lines f b)

pub sheet-counted : (f : Format) (b : List ℕ) → SheetCounted f b
unfolding sheet
sheet-counted f b = record { text = rw (lines-joined f 0 (answers f b)); totals = counted-on f 0 none (answers f b) }
