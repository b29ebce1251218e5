-- A run as the program makes it, by the contract of `write_part` alone: for each part it lends 64 KiB, prints the bytes written there, and goes on with the
-- totals that came back, until a part was the last.
use Rattle.std.specs.Prelude.{◌≡◌, true, false, List, ◌∷◌, ◌++◌, ℕ, length, take}
use Rattle.model.specs.declared.Totals.{Totals}
use Rattle.model.specs.Parts.{part_size}
use Rattle.clearance_lines.specs.declared.part.Written.{Written}
use Rattle.clearance_lines.specs.Part.{PartWorked}

pub record Step (t : Totals) (p : List ℕ) : Type 0 where
  pub lent : List ℕ
  pub left : List ℕ
  pub written : Written
  pub size : length lent ≡ part_size
  pub worked : PartWorked t p lent left written

abbrev pub bytes_of : {t : Totals} {p : List ℕ} → Step t p → List ℕ
bytes_of s = take s.written.at s.left

-- from those totals on, over those parts, a run can print that text
pub data Ran : Totals → List (List ℕ) → List ℕ → Type 0 where
  ends : {t : Totals} {p : List ℕ} {ps : List (List ℕ)} {text : List ℕ} (s : Step t p) → s.written.last ≡ true → text ≡ bytes_of s → Ran t (p ∷ ps) text
  goes_on : {t : Totals} {p : List ℕ} {ps : List (List ℕ)} {text rest : List ℕ} (s : Step t p) → s.written.last ≡ false
      → Ran s.written.totals ps rest → text ≡ bytes_of s ++ rest → Ran t (p ∷ ps) text
