-- Each total is what a reader counts from the printed lines, by the letter that the fourth field starts with: clear the lines with C, touching those with T,
-- open those with O, refused those without a fourth field, a short rest's among them. Assumes nothing.
use mathlib.Core.Path.{◌≡◌, refl, ap, ◌∙◌}
use mathlib.Core.List.{List, [], ◌∷◌, ◌++◌}
use Prim.Native.Nat.{ℕ, suc, ◌+◌}
use native.Mathlib.Omega.{arith}
use borrow.Author.Tests.{ne_eqb}
use lib.Ieee.{binary32}
use lib.ListN.{length}
use Rattle.model.specs.declared.Totals.{Totals}
use Rattle.model.specs.Text.{decimal, line}
use Rattle.model.specs.Parts.{together}
use Rattle.model.specs.Sheet.{refused_line, none}
use Rattle.model.specs.Counted.{after_blanks, printed_letter, how_many}
use Rattle.model.specs.Block.{refused}
use Rattle.model.proofs.Counted.{letter-printed}
use Rattle.text.proofs.ReadBack.{Digits, decimal-digits}
use Rattle.clearance_call.specs.declared.Cleared.{Cleared}
use Rattle.clearance_call.specs.declared.Cleared.TheVariants.{Refused, Clear, Touch, Open}
use Rattle.clearance_block.specs.declared.BlockCleared.{BlockCleared}
use Rattle.clearance_lines.specs.Lines.{fields_of, line_of, lines_from, counted, totals_from}
use Rattle.clearance_lines.specs.Counted.{letter_told, lines_one_by_one, CountedOn, TextCounted}

-- ---- the letter of a line
past-field : (k : ℕ) (l r : List ℕ) → Digits l → after_blanks (suc k) (l ++ (32 ∷ r)) ≡ after_blanks k r
unfolding after_blanks Digits
past-field k [] r p = refl
past-field k (x ∷ l) r p = rw (ne_eqb x 32 (λ e. absurd (omega (arith, p.0)))) (past-field k l r p.1)

-- behind the block, the job and the 0
behind-three : (n job : ℕ) (r : List ℕ) → after_blanks 3 (decimal n ++ (32 ∷ (decimal job ++ (32 ∷ 48 ∷ 32 ∷ r)))) ≡ r
unfolding after_blanks
behind-three n job r = past-field 2 (decimal n) _ (decimal-digits 20 n) ∙ past-field 1 (decimal job) _ (decimal-digits 20 job)

told-letter : (n job : ℕ) (x : Cleared) → printed_letter (line (decimal n ∷ decimal job ∷ fields_of x)) ≡ letter_told x
unfolding line refused_line
told-letter n job (Refused number) = letter-printed binary32 n (refused job number)
told-letter n job (Clear pieces) = rw (behind-three n job _)
told-letter n job (Touch u t pieces) = rw (behind-three n job _)
told-letter n job (Open u pieces) = rw (behind-three n job _)

letter-of-line : (n : ℕ) (a : BlockCleared) → printed_letter (line_of n a) ≡ letter_told a.answer
unfolding line_of
letter-of-line n a = told-letter n a.job a.answer

-- ---- the lines, one for each answer
pub lines-joined : (n : ℕ) (xs : List BlockCleared) → together (lines_one_by_one n xs) ≡ lines_from n xs
unfolding together lines_one_by_one lines_from
lines-joined n [] = refl
lines-joined n (x ∷ xs) = ap (λ (l : List ℕ). line_of (n + 1) x ++ l) (lines-joined (n + 1) xs)

pub a-line-each : (n : ℕ) (xs : List BlockCleared) → length (lines_one_by_one n xs) ≡ length xs
unfolding lines_one_by_one
a-line-each n [] = refl
a-line-each n (x ∷ xs) = ap suc (a-line-each (n + 1) xs)

-- ---- the totals
one_more : (t : Totals) (l : List ℕ) (x : Cleared) → printed_letter l ≡ letter_told x → CountedOn t (counted t x) (l ∷ [])
unfolding how_many
one_more t l (Refused number) e = record
    { blocks = omega arith; clear = rw e (omega arith); contact = rw e (omega arith); undecided = rw e (omega arith); refused = rw e (omega arith) }
one_more t l (Clear pieces) e = record
    { blocks = omega arith; clear = rw e (omega arith); contact = rw e (omega arith); undecided = rw e (omega arith); refused = rw e (omega arith) }
one_more t l (Touch u v pieces) e = record
    { blocks = omega arith; clear = rw e (omega arith); contact = rw e (omega arith); undecided = rw e (omega arith); refused = rw e (omega arith) }
one_more t l (Open u pieces) e = record
    { blocks = omega arith; clear = rw e (omega arith); contact = rw e (omega arith); undecided = rw e (omega arith); refused = rw e (omega arith) }

and_then : (t u w : Totals) (l : List ℕ) (r : List (List ℕ)) → CountedOn t u (l ∷ []) → CountedOn u w r → CountedOn t w (l ∷ r)
unfolding how_many
and_then t u w l r p q = record {
  blocks = omega (arith, p.blocks, q.blocks);
  clear = omega (arith, p.clear, q.clear);
  contact = omega (arith, p.contact, q.contact);
  undecided = omega (arith, p.undecided, q.undecided);
  refused = omega (arith, p.refused, q.refused);
}

pub counted-on : (n : ℕ) (t : Totals) (xs : List BlockCleared) → CountedOn t (totals_from t xs) (lines_one_by_one n xs)
unfolding totals_from lines_one_by_one how_many
counted-on n t [] = record { blocks = omega arith; clear = omega arith; contact = omega arith; undecided = omega arith; refused = omega arith }
counted-on n t (x ∷ xs) =
    and_then t (counted t x.answer) (totals_from (counted t x.answer) xs) (line_of (n + 1) x) (lines_one_by_one (n + 1) xs)
    (one_more t (line_of (n + 1) x) x.answer (letter-of-line (n + 1) x)) (counted-on (n + 1) (counted t x.answer) xs)

pub text-counted : (came : List BlockCleared) → TextCounted came
text-counted came = record { text = rw (lines-joined 0 came); totals = counted-on 0 none came }
