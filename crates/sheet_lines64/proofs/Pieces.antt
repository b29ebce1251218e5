-- Written by tests/written/wide.py from sheet_lines, in f64.
-- The pieces of a line: how long they get, and how a line is made of them. Assumes nothing.
use mathlib.Core.Path.{◌≡◌, refl}
use mathlib.Core.List.{[], ◌∷◌, ◌++◌, append_assoc}
use Prim.Native.Nat.{ℕ}
use borrow.Author.Tests.{eq-eqb, ne_eqb}
use lib.Ieee.{binary64}
use Rattle.model.specs.declared.SupportPair.{SupportPair}
use Rattle.model.specs.declared.Corners.{Corners}
use Rattle.model64.specs.declared.Verdict.{Verdict}
use Rattle.model.specs.declared.Totals.{Totals}
use Rattle.model.specs.Sheet.{letter_of, refused_line, total_line}
use Rattle.model64.specs.Sheet.{worked_line}
use Rattle.model.specs.Separation.{no_index}
use Rattle.model.specs.Text.{line}
use Rattle.text.specs.Put.{number}
use Rattle.fields64.specs.Floats.{floats}
use Rattle.sheet_lines64.specs.Pieces.{three, corner, pair_text, corners_text}

pub three-is : (a b c end : ℕ) → three a b c end ≡ number a 32 ++ number b 32 ++ number c end
unfolding three
three-is a b c end = refl

pub no-corner-is : (i end : ℕ) → i ≡ no_index → corner i end ≡ 45 ∷ end ∷ []
unfolding corner
no-corner-is i end h = rw (eq-eqb i no_index h)

pub a-corner-is : (i end : ℕ) → (i ≡ no_index → ⊥) → corner i end ≡ number i end
unfolding corner
a-corner-is i end h = rw (ne_eqb i no_index h)

pub pair_is : (p : SupportPair) (end : ℕ) → pair_text p end ≡ corner p.first 32 ++ corner p.second end
unfolding pair_text
pair_is p end = refl

pub corners-are : (k : Corners) → corners_text k ≡ pair_text k.a 32 ++ pair_text k.b 10
unfolding corners_text
corners-are k = refl

pub worked-is : (n job : ℕ) (v : Verdict) → worked_line binary64 n job v
    ≡ number n 32 ++ number job 32 ++ (48 ∷ 32 ∷ letter_of v.status ∷ 32 ∷ []) ++ floats v.contact
    ++ three v.counts.distance_calls v.counts.searches v.counts.root_steps 32 ++ corners_text v.corners
unfolding worked_line line three floats corner pair_text corners_text
worked-is n job v = simp append_assoc

pub refused-is : (n job number : ℕ) → refused_line n job number ≡ three n job number 10
unfolding refused_line line three
refused-is n job number = simp append_assoc

pub total-is : (t : Totals) → total_line t
    ≡ (84 ∷ 79 ∷ 84 ∷ 65 ∷ 76 ∷ 32 ∷ []) ++ number t.blocks 32 ++ number t.clear 32 ++ three t.contact t.undecided t.refused 10
unfolding total_line line three
total-is t = simp append_assoc
