-- A report as text: a line for the batches, one for each row, and three for the largest counts.
use Rattle.std.specs.Prelude.{ℕ, List, [], ◌∷◌, ◌++◌, Option, Some, None}
use Rattle.text.specs.Put.{where_room, number}
use Rattle.report_counts.specs.declared.most.Most.{Most}
use Rattle.report_counts.specs.declared.most.Largest.{Largest}
use Rattle.report_counts.specs.declared.counting.Report.{Report}

-- ---- the names, each with the blank after it
unfoldable pub labels : List (List ℕ)
labels =
    (66 ∷ 76 ∷ 79 ∷ 67 ∷ 75 ∷ 83 ∷ 32 ∷ [])  -- BLOCKS
    ∷ (67 ∷ 76 ∷ 69 ∷ 65 ∷ 82 ∷ 32 ∷ [])  -- CLEAR
    ∷ (79 ∷ 86 ∷ 69 ∷ 82 ∷ 76 ∷ 65 ∷ 80 ∷ 80 ∷ 69 ∷ 68 ∷ 32 ∷ [])  -- OVERLAPPED
    ∷ (70 ∷ 65 ∷ 73 ∷ 76 ∷ 69 ∷ 68 ∷ 32 ∷ [])  -- FAILED
    ∷ (72 ∷ 73 ∷ 84 ∷ 32 ∷ [])  -- HIT
    ∷ (72 ∷ 73 ∷ 84 ∷ 32 ∷ 48 ∷ 47 ∷ 56 ∷ 32 ∷ [])  -- HIT 0/8
    ∷ (72 ∷ 73 ∷ 84 ∷ 32 ∷ 49 ∷ 47 ∷ 56 ∷ 32 ∷ [])  -- HIT 1/8
    ∷ (72 ∷ 73 ∷ 84 ∷ 32 ∷ 50 ∷ 47 ∷ 56 ∷ 32 ∷ [])  -- HIT 2/8
    ∷ (72 ∷ 73 ∷ 84 ∷ 32 ∷ 51 ∷ 47 ∷ 56 ∷ 32 ∷ [])  -- HIT 3/8
    ∷ (72 ∷ 73 ∷ 84 ∷ 32 ∷ 52 ∷ 47 ∷ 56 ∷ 32 ∷ [])  -- HIT 4/8
    ∷ (72 ∷ 73 ∷ 84 ∷ 32 ∷ 53 ∷ 47 ∷ 56 ∷ 32 ∷ [])  -- HIT 5/8
    ∷ (72 ∷ 73 ∷ 84 ∷ 32 ∷ 54 ∷ 47 ∷ 56 ∷ 32 ∷ [])  -- HIT 6/8
    ∷ (72 ∷ 73 ∷ 84 ∷ 32 ∷ 55 ∷ 47 ∷ 56 ∷ 32 ∷ [])  -- HIT 7/8
    ∷ (72 ∷ 73 ∷ 84 ∷ 32 ∷ 49 ∷ 32 ∷ [])  -- HIT 1
    ∷ (72 ∷ 73 ∷ 84 ∷ 32 ∷ 66 ∷ 69 ∷ 76 ∷ 79 ∷ 87 ∷ 32 ∷ [])  -- HIT BELOW
    ∷ (72 ∷ 73 ∷ 84 ∷ 32 ∷ 65 ∷ 66 ∷ 79 ∷ 86 ∷ 69 ∷ 32 ∷ [])  -- HIT ABOVE
    ∷ (72 ∷ 73 ∷ 84 ∷ 32 ∷ 78 ∷ 65 ∷ 78 ∷ 32 ∷ [])  -- HIT NAN
    ∷ (82 ∷ 69 ∷ 70 ∷ 85 ∷ 83 ∷ 69 ∷ 68 ∷ 32 ∷ [])  -- REFUSED
    ∷ (82 ∷ 69 ∷ 70 ∷ 85 ∷ 83 ∷ 69 ∷ 68 ∷ 32 ∷ 51 ∷ 32 ∷ [])  -- REFUSED 3
    ∷ (82 ∷ 69 ∷ 70 ∷ 85 ∷ 83 ∷ 69 ∷ 68 ∷ 32 ∷ 52 ∷ 32 ∷ [])  -- REFUSED 4
    ∷ (82 ∷ 69 ∷ 70 ∷ 85 ∷ 83 ∷ 69 ∷ 68 ∷ 32 ∷ 53 ∷ 32 ∷ [])  -- REFUSED 5
    ∷ (82 ∷ 69 ∷ 70 ∷ 85 ∷ 83 ∷ 69 ∷ 68 ∷ 32 ∷ 54 ∷ 32 ∷ [])  -- REFUSED 6
    ∷ (82 ∷ 69 ∷ 70 ∷ 85 ∷ 83 ∷ 69 ∷ 68 ∷ 32 ∷ 55 ∷ 32 ∷ [])  -- REFUSED 7
    ∷ (82 ∷ 69 ∷ 70 ∷ 85 ∷ 83 ∷ 69 ∷ 68 ∷ 32 ∷ 56 ∷ 32 ∷ [])  -- REFUSED 8
    ∷ (82 ∷ 69 ∷ 70 ∷ 85 ∷ 83 ∷ 69 ∷ 68 ∷ 32 ∷ 57 ∷ 32 ∷ [])  -- REFUSED 9
    ∷ (82 ∷ 69 ∷ 70 ∷ 85 ∷ 83 ∷ 69 ∷ 68 ∷ 32 ∷ 49 ∷ 48 ∷ 32 ∷ [])  -- REFUSED 10
    ∷ (82 ∷ 69 ∷ 70 ∷ 85 ∷ 83 ∷ 69 ∷ 68 ∷ 32 ∷ 49 ∷ 49 ∷ 32 ∷ [])  -- REFUSED 11
    ∷ (82 ∷ 69 ∷ 70 ∷ 85 ∷ 83 ∷ 69 ∷ 68 ∷ 32 ∷ 49 ∷ 51 ∷ 32 ∷ [])  -- REFUSED 13
    ∷ []

abbrev pub batches_label : List ℕ
batches_label = 66 ∷ 65 ∷ 84 ∷ 67 ∷ 72 ∷ 69 ∷ 83 ∷ 32 ∷ []

abbrev pub calls_label : List ℕ
calls_label = 67 ∷ 65 ∷ 76 ∷ 76 ∷ 83 ∷ 32 ∷ []

abbrev pub searches_label : List ℕ
searches_label = 83 ∷ 69 ∷ 65 ∷ 82 ∷ 67 ∷ 72 ∷ 69 ∷ 83 ∷ 32 ∷ []

abbrev pub steps_label : List ℕ
steps_label = 83 ∷ 84 ∷ 69 ∷ 80 ∷ 83 ∷ 32 ∷ []

-- ---- lines
abbrev pub row_text : List ℕ → ℕ → List ℕ
row_text label n = label ++ number n 10

unfoldable pub rows_text : List (List ℕ) → List ℕ → List ℕ
rows_text [] ns = []
rows_text (l ∷ ls) [] = []
rows_text (l ∷ ls) (n ∷ ns) = row_text l n ++ rows_text ls ns

abbrev pub place_text : ℕ → ℕ → ℕ → List ℕ
place_text n i j = number n 32 ++ number i 32 ++ number j 10

-- zeros where no block was worked
abbrev pub most_text : Option Most → List ℕ
most_text None = place_text 0 0 0
most_text (Some s) = place_text s.count s.batch s.block

abbrev pub named_text : List ℕ → Option Most → List ℕ
named_text name m = name ++ most_text m

unfoldable pub largest_text : Largest → List ℕ
largest_text a = named_text calls_label a.calls ++ named_text searches_label a.searches ++ named_text steps_label a.steps

unfoldable pub report_text : Report → List ℕ
report_text r = row_text batches_label r.batches ++ rows_text labels r.counts ++ largest_text r.largest

-- ---- in a lent list
-- no report is longer: 29 lines of a name of up to 11 bytes and a number of up to 21, and three of up to 72
abbrev pub longest_report : ℕ
longest_report = 1200

abbrev pub text_in : Report → ℕ → List ℕ
text_in r room = where_room longest_report room (report_text r)
