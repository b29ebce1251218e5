-- The printed lines and totals, as maps and folds of the answers that came: one for each block, in order.
use Rattle.std.specs.Prelude.{ℕ, ◌+◌, List, [], ◌∷◌, ◌++◌}
use Rattle.model.specs.declared.Totals.{Totals}
use Rattle.model.specs.Text.{decimal, hex_by, line}
use Rattle.model.specs.Sheet.{none, one_clear, one_contact, one_undecided, one_refused, total_line}
use Rattle.places.specs.Place.{place_bits}
use Rattle.clearance_call.specs.declared.Cleared.{Cleared}
use Rattle.clearance_call.specs.declared.Cleared.TheVariants.{Refused, Clear, Touch, Open}
use Rattle.clearance_block.specs.declared.BlockCleared.{BlockCleared}

-- no line is longer: TOTAL with its five numbers of up to 20 digits has 111 bytes
abbrev pub longest_line : ℕ
longest_line = 120

-- ---- lines
-- CLEAR, TOUCH and OPEN
abbrev pub clear_word : List ℕ
clear_word = 67 ∷ 76 ∷ 69 ∷ 65 ∷ 82 ∷ []

abbrev pub touch_word : List ℕ
touch_word = 84 ∷ 79 ∷ 85 ∷ 67 ∷ 72 ∷ []

abbrev pub open_word : List ℕ
open_word = 79 ∷ 80 ∷ 69 ∷ 78 ∷ []

-- a place on the way by the digits of the f32 that it is
abbrev pub place_digits : ℕ → List ℕ
place_digits k = hex_by 8 (place_bits k)

-- what stands behind the job
abbrev pub fields_of : Cleared → List (List ℕ)
fields_of (Refused number) = decimal number ∷ []
fields_of (Clear pieces) = (48 ∷ []) ∷ clear_word ∷ decimal pieces ∷ []
fields_of (Touch u t pieces) = (48 ∷ []) ∷ touch_word ∷ place_digits u ∷ place_digits t ∷ decimal pieces ∷ []
fields_of (Open u pieces) = (48 ∷ []) ∷ open_word ∷ place_digits u ∷ decimal pieces ∷ []

-- the line of block n
unfoldable pub line_of : ℕ → BlockCleared → List ℕ
line_of n a = line (decimal n ∷ decimal a.job ∷ fields_of a.answer)

-- the lines of answers that follow n others
unfoldable pub lines_from : ℕ → List BlockCleared → List ℕ
lines_from n [] = []
lines_from n (a ∷ later) = line_of (n + 1) a ++ lines_from (n + 1) later

-- ---- totals, those of a sheet: TOUCH counts as contact, and OPEN is no verdict
abbrev pub counted : Totals → Cleared → Totals
counted t (Refused number) = one_refused t
counted t (Clear pieces) = one_clear t
counted t (Touch u v pieces) = one_contact t
counted t (Open u pieces) = one_undecided t

unfoldable pub totals_from : Totals → List BlockCleared → Totals
totals_from t [] = t
totals_from t (a ∷ later) = totals_from (counted t a.answer) later

-- ---- the whole text
abbrev pub text_of : List BlockCleared → List ℕ
text_of came = lines_from 0 came ++ total_line (totals_from none came)
