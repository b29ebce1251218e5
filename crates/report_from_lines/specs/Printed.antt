-- What a reader finds on the printed lines of sheets: the fields of a line, the lines that he counts, and the largest number that one shows. A line is
-- looked at as text alone.
use Rattle.std.specs.Prelude.{◌≡◌, ℕ, ◌+◌, ◌≤◌, ◌<◌, Bool, cond, ◌&&◌, List, [], ◌∷◌, ◌++◌, map, eqb, ltb, length, get_or, Float, Option, Some, None}
use Rattle.std.specs.Float.{binary32}
use Rattle.std.specs.Float.Ieee.{of_bits}
use Rattle.model.specs.Counted.{after_blanks, printed_letter, sheet_lines}
use Rattle.numerals.specs.Numerals.{said_from, word_from}
use Rattle.report_counts.specs.declared.most.Most.{Most}
use Rattle.report_counts.specs.declared.counting.Report.{Report}
use Rattle.report_counts.specs.Rows.{hit_row, refusal_row}
use Rattle.report_counts.specs.Largest.{seen_at}
use Rattle.report_batches.specs.Told.{Given, AtMost, Below}

-- ---- fields
-- up to a blank or the newline
unfoldable pub up_to_blank : List ℕ → List ℕ
up_to_blank [] = []
up_to_blank (x ∷ l) = cond (ltb x 33) [] (x ∷ up_to_blank l)

-- field k of a line, from 0
abbrev pub field_at : ℕ → List ℕ → List ℕ
field_at k l = up_to_blank (after_blanks k l)

-- the number that it says in decimal
abbrev pub number_at : ℕ → List ℕ → ℕ
number_at k l = said_from 0 (field_at k l)

abbrev pub block_printed : List ℕ → ℕ
block_printed l = number_at 0 l

-- the number that a block was refused by, 0 for one that was not
abbrev pub refusal_printed : List ℕ → ℕ
refusal_printed l = number_at 2 l

-- by the eight digits of its bits
abbrev pub fraction_printed : List ℕ → Float
fraction_printed l = of_bits binary32 (word_from 0 (field_at 4 l))

abbrev pub calls_field : ℕ
calls_field = 9

abbrev pub searches_field : ℕ
searches_field = 10

abbrev pub steps_field : ℕ
steps_field = 11

-- ---- lines that are counted
unfoldable pub count_of : (List ℕ → Bool) → List (List ℕ) → ℕ
count_of p [] = 0
count_of p (l ∷ ls) = cond (p l) 1 0 + count_of p ls

-- a line with H whose fraction belongs to that row of the report
abbrev pub is_hit_in : ℕ → List ℕ → Bool
is_hit_in row l = eqb (printed_letter l) 72 && eqb (hit_row (fraction_printed l)) row

abbrev pub is_refused_by : ℕ → List ℕ → Bool
is_refused_by n l = eqb (refusal_printed l) n

-- ---- the largest number, and the first line that has it
-- a line with the place of its sheet among all, from 1
pub record Printed : Type 0 where
  pub sheet : ℕ
  pub line : List ℕ

unfoldable pub on_sheet : ℕ → List (List ℕ) → List Printed
on_sheet i [] = []
on_sheet i (l ∷ ls) = record { sheet = i; line = l } ∷ on_sheet i ls

-- the lines of the sheets of files that follow i others, TOTAL not among them
unfoldable pub printed_behind : ℕ → List (List ℕ) → List Printed
printed_behind i [] = []
printed_behind i (b ∷ bs) = on_sheet (i + 1) (sheet_lines binary32 b) ++ printed_behind (i + 1) bs

-- what a line shows in a field: that number, on that sheet, at the block that it names; nothing where there is no letter
abbrev pub shows : ℕ → Printed → Option Most
shows k p = cond (eqb (printed_letter p.line) 0) None (seen_at (number_at k p.line) p.sheet (block_printed p.line))

-- m is what is shown at place k; nothing that is shown is larger, and all before it is smaller. Or nothing is shown at all
pub data FirstLargest (shown : List (Option Most)) (m : Option Most) : Type 0 where
  none : m ≡ None → ((k : ℕ) → get_or shown k None ≡ None) → FirstLargest shown m
  first : (k n i j : ℕ) → m ≡ seen_at n i j → k < length shown → get_or shown k None ≡ seen_at n i j → ((l : ℕ) → AtMost n (get_or shown l None))
      → ((l : ℕ) → l < k → Below n (get_or shown l None)) → FirstLargest shown m

-- ---- the report of files
-- its rows of hits and of refusals are counted from the lines, and its three largest counts are the first largest that they show
pub record FromLines (lines : List (List ℕ)) (printed : List Printed) (r : Report) : Type 0 where
  pub hits : (row : ℕ) → 5 ≤ row → row ≤ 16 → get_or r.counts row 0 ≡ count_of (is_hit_in row) lines
  pub refusals : (n : ℕ) → Given n → get_or r.counts (refusal_row n) 0 ≡ count_of (is_refused_by n) lines
  pub calls : FirstLargest (map (shows calls_field) printed) r.largest.calls
  pub searches : FirstLargest (map (shows searches_field) printed) r.largest.searches
  pub steps : FirstLargest (map (shows steps_field) printed) r.largest.steps
