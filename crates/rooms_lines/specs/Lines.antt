-- The printed lines and totals, as maps and folds of the answers that came: one for each block, in order.
use Rattle.std.specs.Prelude.{ℕ, ◌+◌, cond, List, [], ◌∷◌, ◌++◌, Float, Option, Some, None, Ok, Err, is_err}
use Rattle.std.specs.Float.{binary32}
use Rattle.std.specs.Float.Ieee.{to_bits}
use Rattle.model.specs.Text.{decimal, hex_by, line}
use Rattle.rooms_block.specs.Answer.{BlockRooms}
use Rattle.rooms_lines.specs.declared.part.Tally.{Tally}

-- no line is longer: two numbers of up to 20 digits, the 0, the room and 64 cells make 118 bytes
abbrev pub longest_line : ℕ
longest_line = 120

-- ---- lines
-- the room by the digits of its f32, or `-`
abbrev pub room_text : Option Float → List ℕ
room_text (Some room) = hex_by 8 (to_bits binary32 room)
room_text None = 45 ∷ []

-- the job, and what stands behind it: the number of the refusal, or 0, the room and the cells
abbrev pub fields_of : BlockRooms → List (List ℕ)
fields_of (Ok p) = decimal p.job ∷ (48 ∷ []) ∷ room_text p.room ∷ p.cells ∷ []
fields_of (Err e) = decimal e.job ∷ decimal e.number ∷ []

-- the line of block n
unfoldable pub line_of : ℕ → BlockRooms → List ℕ
line_of n a = line (decimal n ∷ fields_of a)

-- the lines of answers that follow n others
unfoldable pub lines_from : ℕ → List BlockRooms → List ℕ
lines_from n [] = []
lines_from n (a ∷ later) = line_of (n + 1) a ++ lines_from (n + 1) later

-- ---- totals: the blocks, and those refused
abbrev pub none : Tally
none = record { blocks = 0; refused = 0 }

abbrev pub counted : Tally → BlockRooms → Tally
counted t a = record { blocks = t.blocks + 1; refused = cond (is_err a) (t.refused + 1) t.refused }

unfoldable pub totals_from : Tally → List BlockRooms → Tally
totals_from t [] = t
totals_from t (a ∷ later) = totals_from (counted t a) later

-- TOTAL, the blocks and the refused
unfoldable pub total_line : Tally → List ℕ
total_line t = line ((84 ∷ 79 ∷ 84 ∷ 65 ∷ 76 ∷ []) ∷ decimal t.blocks ∷ decimal t.refused ∷ [])

-- ---- the whole text
abbrev pub text_of : List BlockRooms → List ℕ
text_of came = lines_from 0 came ++ total_line (totals_from none came)
