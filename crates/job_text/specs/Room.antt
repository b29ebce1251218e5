-- Refusals as text, and how much of the input there is room for.
use Rattle.std.specs.Prelude.{ℕ, ◌+◌, ◌/◌, min, cond, List, [], ◌++◌, nat_lt}
use Rattle.model.specs.Parts.{count_limit}
use Rattle.text.specs.Put.{number, where_room}

-- a line or a block, by its number, and why it is refused
unfoldable pub refusal : ℕ → ℕ → List ℕ
refusal n why = number n 32 ++ number why 10

-- two numbers of 20 digits, and a byte after each
abbrev pub refusal_room : ℕ
refusal_room = 42

-- the refusal of the one after so many, where there is room and it can be counted
abbrev pub told_for : ℕ → ℕ → ℕ → List ℕ
told_for before why room = cond (nat_lt before count_limit) (where_room refusal_room room (refusal (before + 1) why)) []

-- of so many bytes or blocks those that have room, if each of them were written and each refused
abbrev pub used_of : ℕ → ℕ → ℕ → ℕ → ℕ
used_of size most told before = cond (nat_lt before count_limit) (min (min size most) (told / refusal_room)) 0
