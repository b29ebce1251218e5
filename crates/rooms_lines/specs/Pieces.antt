-- The lines, cut into the pieces in which they are written.
use Rattle.std.specs.Prelude.{ℕ, List, [], ◌∷◌, ◌++◌, Float, Option, Some, None}
use Rattle.std.specs.Float.{binary32}
use Rattle.std.specs.Float.Ieee.{to_bits}
use Rattle.text.specs.Put.{number, hex}

-- the 0, the room, the cells and the newline
abbrev pub cells_room : ℕ
cells_room = 76

unfoldable pub two : ℕ → ℕ → ℕ → List ℕ
two a b end = number a 32 ++ number b end

unfoldable pub room_piece : Option Float → List ℕ
room_piece (Some room) = hex (to_bits binary32 room) 32
room_piece None = 45 ∷ 32 ∷ []

unfoldable pub cells_piece : Option Float → List ℕ → List ℕ
cells_piece room cells = (48 ∷ 32 ∷ []) ++ room_piece room ++ cells ++ (10 ∷ [])
