-- Numbers as digits, read from the first to the last. Nothing here speaks of how a program prints or reads them.
use Rattle.std.specs.Prelude.{◌≡◌, ◌⊎◌, ℕ, ◌+◌, ◌-◌, ◌*◌, ◌≤◌, cond, List, [], ◌∷◌, ltb, get_or}

-- ---- decimal
-- 0 to 9
abbrev pub Digit : ℕ → Type 0
Digit x = (48 ≤ x) × (x ≤ 57)

unfoldable pub Digits : List ℕ → Type 0
Digits [] = Unit {0}
Digits (x ∷ s) = Digit x × Digits s

-- the number that digits say, behind those that said v
unfoldable pub said_from : ℕ → List ℕ → ℕ
said_from v [] = v
said_from v (x ∷ s) = said_from (v * 10 + (x - 48)) s

-- a text of digits that says n; it has a first digit, which is not 0: so there is no leading zero, and n is at least 1
pub record Decimal (s : List ℕ) (n : ℕ) : Type 0 where
  pub digits : Digits s
  pub leading : 49 ≤ get_or s 0 0
  pub says : said_from 0 s ≡ n

-- ---- hexadecimal
-- 0 to 9 and A to F
abbrev pub Capital : ℕ → Type 0
Capital x = Digit x ⊎ ((65 ≤ x) × (x ≤ 70))

unfoldable pub Capitals : List ℕ → Type 0
Capitals [] = Unit {0}
Capitals (x ∷ w) = Capital x × Capitals w

-- A stands for 10
abbrev pub worth : ℕ → ℕ
worth x = cond (ltb x 65) (x - 48) (x - 55)

-- the word that they say, behind those that said v
unfoldable pub word_from : ℕ → List ℕ → ℕ
word_from v [] = v
word_from v (x ∷ w) = word_from (v * 16 + worth x) w
