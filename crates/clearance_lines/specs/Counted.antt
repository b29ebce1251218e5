-- What a reader counts on the printed lines: by the letter that the fourth field starts with, C, T or O; a refused line has no fourth field.
use Rattle.std.specs.Prelude.{◌≡◌, ℕ, ◌+◌, List, [], ◌∷◌, ◌++◌, length}
use Rattle.model.specs.declared.Totals.{Totals}
use Rattle.model.specs.Parts.{together}
use Rattle.model.specs.Sheet.{none, total_line}
use Rattle.model.specs.Counted.{how_many}
use Rattle.clearance_call.specs.declared.Cleared.{Cleared}
use Rattle.clearance_call.specs.declared.Cleared.TheVariants.{Refused, Clear, Touch, Open}
use Rattle.clearance_block.specs.declared.BlockCleared.{BlockCleared}
use Rattle.clearance_lines.specs.Lines.{line_of, totals_from, text_of}

-- 0 for a refused block
abbrev pub letter_told : Cleared → ℕ
letter_told (Refused number) = 0
letter_told (Clear pieces) = 67
letter_told (Touch u t pieces) = 84
letter_told (Open u pieces) = 79

-- the lines of answers that follow n others, one by one
unfoldable pub lines_one_by_one : ℕ → List BlockCleared → List (List ℕ)
lines_one_by_one n [] = []
lines_one_by_one n (a ∷ later) = line_of (n + 1) a ∷ lines_one_by_one (n + 1) later

-- the totals are those before, with the lines counted on by their letters
pub record CountedOn (before after : Totals) (lines : List (List ℕ)) : Type 0 where
  pub blocks : after.blocks ≡ before.blocks + length lines
  pub clear : after.clear ≡ before.clear + how_many 67 lines
  pub contact : after.contact ≡ before.contact + how_many 84 lines
  pub undecided : after.undecided ≡ before.undecided + how_many 79 lines
  pub refused : after.refused ≡ before.refused + how_many 0 lines

-- the whole text: a line for each answer, and the totals counted from them
pub record TextCounted (came : List BlockCleared) : Type 0 where
  pub text : text_of came ≡ together (lines_one_by_one 0 came) ++ total_line (totals_from none came)
  pub totals : CountedOn none (totals_from none came) (lines_one_by_one 0 came)
