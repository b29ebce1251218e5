-- The lines, cut into the pieces in which they are written.
use Rattle.std.specs.Prelude.{ℕ, List, [], ◌∷◌, ◌++◌}
use Rattle.text.specs.Put.{number, hex}
use Rattle.places.specs.Place.{place_bits}
use Rattle.clearance_call.specs.declared.Cleared.{Cleared}
use Rattle.clearance_call.specs.declared.Cleared.TheVariants.{Refused, Clear, Touch, Open}

-- a word and a blank, two places, a number: no answer is longer
abbrev pub answer_room : ℕ
answer_room = 47

unfoldable pub two : ℕ → ℕ → List ℕ
two a b = number a 32 ++ number b 32

abbrev pub place : ℕ → List ℕ
place k = hex (place_bits k) 32

unfoldable pub clear_text : ℕ → List ℕ
clear_text pieces = (48 ∷ 32 ∷ 67 ∷ 76 ∷ 69 ∷ 65 ∷ 82 ∷ 32 ∷ []) ++ number pieces 10

unfoldable pub touch_text : (u t pieces : ℕ) → List ℕ
touch_text u t pieces = (48 ∷ 32 ∷ 84 ∷ 79 ∷ 85 ∷ 67 ∷ 72 ∷ 32 ∷ []) ++ place u ++ place t ++ number pieces 10

unfoldable pub open_text : (u pieces : ℕ) → List ℕ
open_text u pieces = (48 ∷ 32 ∷ 79 ∷ 80 ∷ 69 ∷ 78 ∷ 32 ∷ []) ++ place u ++ number pieces 10

abbrev pub answer_text : Cleared → List ℕ
answer_text (Refused k) = number k 10
answer_text (Clear pieces) = clear_text pieces
answer_text (Touch u t pieces) = touch_text u t pieces
answer_text (Open u pieces) = open_text u pieces
