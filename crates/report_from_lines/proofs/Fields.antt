-- The fields of a printed line, read from it. Assumes nothing.
use mathlib.Core.Path.{◌≡◌, refl, ap, ◌∙◌}
use mathlib.Core.List.{List, [], ◌∷◌, ◌++◌}
use Prim.Native.Nat.{ℕ, zero, suc, ◌<◌}
use native.Mathlib.Omega.{arith}
use borrow.Author.Tests.{lt-ltb, le-ltb, ne_eqb}
use lib.ListN.{length, get_or}
use Rattle.model.specs.Text.{line}
use Rattle.model.specs.Counted.{after_blanks}
use Rattle.text.proofs.ReadBack.{Digits}
use Rattle.report_from_lines.specs.Printed.{up_to_blank, field_at}

up_to : (x : List ℕ) (c : ℕ) (t : List ℕ) → Digits x → c < 33 → up_to_blank (x ++ (c ∷ t)) ≡ x
unfolding up_to_blank Digits
up_to [] c t h low = rw (lt-ltb c 33 low)
up_to (y ∷ x) c t h low = rw (le-ltb y 33 (omega (arith, h.0)), up_to x c t h.1 low)

past : (k : ℕ) (x t : List ℕ) → Digits x → after_blanks (suc k) (x ++ (32 ∷ t)) ≡ after_blanks k t
unfolding after_blanks Digits
past k [] t h = refl
past k (y ∷ x) t h = rw (ne_eqb y 32 (λ e. omega (arith, h.0))) (past k x t h.1)

-- every field is of digits or letters
unfoldable pub Each : List (List ℕ) → Type 0
Each [] = Unit {0}
Each (x ∷ xs) = Digits x × Each xs

first_field : (x : List ℕ) (more : List (List ℕ)) → Digits x → up_to_blank (line (x ∷ more)) ≡ x
unfolding line
first_field x [] h = up_to x 10 [] h (omega arith)
first_field x (y ∷ more) h = up_to x 32 (line (y ∷ more)) h (omega arith)

-- whatever follows them
pub field_is : (fs more : List (List ℕ)) (k : ℕ) → Each fs → k < length fs → field_at k (line (fs ++ more)) ≡ get_or fs k []
unfolding Each after_blanks line
field_is [] more k h inside = absurd (omega (arith, inside))
field_is (x ∷ fs) more zero h inside = first_field x (fs ++ more) h.0
field_is (x ∷ []) more (suc k) h inside = absurd (omega (arith, inside))
field_is (x ∷ y ∷ fs) more (suc k) h inside =
    ap up_to_blank (past k x (line (y ∷ (fs ++ more))) h.0) ∙ field_is (y ∷ fs) more k h.1 (omega (arith, inside))
