-- How a line is made of its pieces. Assumes nothing.
use mathlib.Core.Path.{◌≡◌, refl}
use mathlib.Core.List.{[], ◌∷◌, ◌++◌, append_assoc}
use Prim.Native.Nat.{ℕ}
use Rattle.model.specs.declared.Totals.{Totals}
use Rattle.model.specs.Sheet.{total_line}
use Rattle.model.specs.Text.{decimal, line}
use Rattle.text.specs.Put.{number}
use Rattle.clearance_call.specs.declared.Cleared.{Cleared}
use Rattle.clearance_call.specs.declared.Cleared.TheVariants.{Refused, Clear, Touch, Open}
use Rattle.clearance_block.specs.declared.BlockCleared.{BlockCleared}
use Rattle.clearance_lines.specs.Lines.{fields_of, line_of}
use Rattle.clearance_lines.specs.Pieces.{two, place, clear_text, touch_text, open_text, answer_text}

pub two_is : (a b : ℕ) → two a b ≡ number a 32 ++ number b 32
unfolding two
two_is a b = refl

-- ---- what stands behind the job
pub clear-is : (pieces : ℕ) → clear_text pieces ≡ (48 ∷ 32 ∷ 67 ∷ 76 ∷ 69 ∷ 65 ∷ 82 ∷ 32 ∷ []) ++ number pieces 10
unfolding clear_text
clear-is pieces = refl

pub touch_is : (u t pieces : ℕ) → touch_text u t pieces ≡ (48 ∷ 32 ∷ 84 ∷ 79 ∷ 85 ∷ 67 ∷ 72 ∷ 32 ∷ []) ++ place u ++ place t ++ number pieces 10
unfolding touch_text
touch_is u t pieces = refl

pub open_is : (u pieces : ℕ) → open_text u pieces ≡ (48 ∷ 32 ∷ 79 ∷ 80 ∷ 69 ∷ 78 ∷ 32 ∷ []) ++ place u ++ number pieces 10
unfolding open_text
open_is u pieces = refl

-- ---- the lines
by_answer : (n job : ℕ) (x : Cleared) → line (decimal n ∷ decimal job ∷ fields_of x) ≡ two n job ++ answer_text x
unfolding line two clear_text touch_text open_text
by_answer n job (Refused k) = simp append_assoc
by_answer n job (Clear pieces) = simp append_assoc
by_answer n job (Touch u t pieces) = simp append_assoc
by_answer n job (Open u pieces) = simp append_assoc

pub line-is : (n : ℕ) (a : BlockCleared) → line_of n a ≡ two n a.job ++ answer_text a.answer
unfolding line_of
line-is n a = by_answer n a.job a.answer

pub total-is : (t : Totals) → total_line t
    ≡ (84 ∷ 79 ∷ 84 ∷ 65 ∷ 76 ∷ 32 ∷ []) ++ two t.blocks t.clear ++ two t.contact t.undecided ++ number t.refused 10
unfolding total_line line two
total-is t = simp append_assoc
