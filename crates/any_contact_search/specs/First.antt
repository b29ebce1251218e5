-- The first contact of a batch: its number, and the text that tells it.
use Rattle.std.specs.Prelude.{◌≡◌, ℕ, ◌+◌, ◌≤◌, ◌<◌, Bool, true, false, cond, ◌||◌, List, [], ◌∷◌, ◌++◌, eqb, length, get_or, Ok, Err}
use Rattle.std.specs.Float.{Format}
use Rattle.model.specs.declared.Status.{Status}
use Rattle.model.specs.declared.Status.TheVariants.{Overlapped, Hit, Separated, Failed}
use Rattle.model.specs.Text.{decimal}
use Rattle.model.specs.Sheet.{answers, none, totals_from}
use Rattle.model.specs.Counted.{printed_letter, sheet_lines}
use Rattle.model.specs.Work.{BlockAnswer}

-- H and O are contact; S counts as clear, and F is no verdict
abbrev pub touches : Status → Bool
touches Overlapped = true
touches Hit = true
touches Separated = false
touches Failed = false

-- a refused block is passed over
abbrev pub is_contact : BlockAnswer → Bool
is_contact (Ok w) = touches w.verdict.status
is_contact (Err r) = false

-- the number of the first contact among answers that follow n others; 0 where there is none
unfoldable pub first_from : ℕ → List BlockAnswer → ℕ
first_from n [] = 0
first_from n (x ∷ xs) = cond (is_contact x) (n + 1) (first_from (n + 1) xs)

-- of a file
abbrev pub first_contact : Format → List ℕ → ℕ
first_contact f b = first_from 0 (answers f b)

-- the number, or `none`, and a newline
abbrev pub said : ℕ → List ℕ
said n = cond (eqb n 0) (110 ∷ 111 ∷ 110 ∷ 101 ∷ 10 ∷ []) (decimal n ++ (10 ∷ []))

-- whether a line of the sheet prints H or O
abbrev pub prints_contact : List ℕ → Bool
prints_contact l = eqb (printed_letter l) 72 || eqb (printed_letter l) 79

-- ---- every file: its number and its sheet
pub record FirstContact (f : Format) (b : List ℕ) : Type 0 where
  -- there is a number if and only if contact in TOTAL is above 0
  pub counted : 0 < first_contact f b → 0 < (totals_from none (answers f b)).contact
  pub told : 0 < (totals_from none (answers f b)).contact → 0 < first_contact f b
  -- it is a block's; lines are counted from 0 here, so the line of block i + 1 is line i
  pub inside : first_contact f b ≤ length (answers f b)
  pub prints : (i : ℕ) → i + 1 ≡ first_contact f b → prints_contact (get_or (sheet_lines f b) i []) ≡ true
  -- no line before it prints H or O, and where there is no number none does
  pub lowest : (i : ℕ) → i + 1 < first_contact f b → prints_contact (get_or (sheet_lines f b) i []) ≡ false
  pub none-prints : first_contact f b ≡ 0 → (i : ℕ) → prints_contact (get_or (sheet_lines f b) i []) ≡ false
