-- A file is read in parts: all are whole but the last, which is shorter. Put together they are the file.
use Rattle.std.specs.Prelude.{ℕ, Bool, List, [], ◌∷◌, ◌++◌, ltb, length}

unfoldable pub together : List (List ℕ) → List ℕ
together [] = []
together (p ∷ ps) = p ++ together ps

-- a shorter part is the last one
abbrev pub part_size : ℕ
part_size = 65536

abbrev pub is_last : List ℕ → Bool
is_last part = ltb (length part) part_size

-- blocks below this can be counted on through any part without wrapping
abbrev pub count_limit : ℕ
count_limit = 0x8000_0000_0000_0000
