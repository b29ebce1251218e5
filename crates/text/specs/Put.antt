-- A text written into a list from some place on, and the pieces that lines are made of.
use Rattle.std.specs.Prelude.{◌≡◌, ℕ, ◌+◌, cond, List, [], ◌∷◌, ◌++◌, ltb, length, take, drop}
use Rattle.model.specs.Text.{decimal, hex_by}

-- d with s from place k on
unfoldable pub pasted : List ℕ → ℕ → List ℕ → List ℕ
pasted d k s = take k d ++ s ++ drop (k + length s) d

-- d' is d with s from place k on, and e the place after it
pub record Put (d : List ℕ) (k : ℕ) (s : List ℕ) (d' : List ℕ) (e : ℕ) : Type 0 where
  pub place : e ≡ k + length s
  pub bytes : d' ≡ pasted d k s

-- nothing where there is no room for that many bytes
abbrev pub where_room : ℕ → ℕ → List ℕ → List ℕ
where_room least room s = cond (ltb room least) [] s

-- ---- pieces
abbrev pub number : ℕ → ℕ → List ℕ
number n end = decimal n ++ (end ∷ [])

-- a word by its eight digits
abbrev pub hex : ℕ → ℕ → List ℕ
hex n end = hex_by 8 n ++ (end ∷ [])

-- a long word by its sixteen
abbrev pub wide_hex : ℕ → ℕ → List ℕ
wide_hex n end = hex_by 16 n ++ (end ∷ [])
