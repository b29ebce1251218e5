-- Numbers read from bytes: a byte below 48 (a blank, a newline) ends one, any other is a digit more.
use Rattle.std.specs.Prelude.{ℕ, ◌+◌, ◌-◌, ◌*◌, ◌%◌, ◌^◌, cond, List, [], ◌∷◌, ltb, set}

-- 0 to 9 and A to F; 16 for any other byte
abbrev pub hex_digit : ℕ → ℕ
hex_digit x = cond (ltb x 48) 16 (cond (ltb x 58) (x - 48) (cond (ltb x 65) 16 (cond (ltb x 71) (x - 55) 16)))

-- so many numbers are decimal, and those after them hexadecimal
abbrev pub base_at : ℕ → ℕ → ℕ
base_at decimals k = cond (ltb k decimals) 10 16

-- ---- a byte more, with k numbers before and that value so far
abbrev pub next_count : ℕ → ℕ → ℕ
next_count x k = cond (ltb x 48) (k + 1) k

abbrev pub next_value : ℕ → ℕ → ℕ → ℕ → ℕ
next_value decimals x k v = cond (ltb x 48) 0 ((v * base_at decimals k + hex_digit x) % 2 ^ 32)

abbrev pub next_words : ℕ → ℕ → ℕ → List ℕ → List ℕ
next_words x k v words = cond (ltb x 48) (set words k v) words

-- the words with all numbers of a line, each in its place
unfoldable pub stored : ℕ → ℕ → ℕ → List ℕ → List ℕ → List ℕ
stored decimals k v words [] = words
stored decimals k v words (x ∷ xs) = stored decimals (next_count x k) (next_value decimals x k v) (next_words x k v words) xs
