-- The names beside a file: of what is collected, and of what the file held.
use Rattle.std.specs.Prelude.{◌≡◌, ℕ, ◌+◌, ◌-◌, ◌≤◌, ◌<◌, List, [], ◌∷◌, ◌++◌, length, get_or, take}
use Rattle.text.specs.Put.{Put, where_room}

-- r is the place after the last slash, 0 where there is none
pub record AfterFolder (name : List ℕ) (r : ℕ) : Type 0 where
  pub inside : r ≤ length name
  pub slash : 0 < r → get_or name (r - 1) 0 ≡ 47
  pub last : (j : ℕ) → r ≤ j → j < length name → get_or name j 0 ≡ 47 → ⊥

-- .foldflake-XXXXXX
abbrev pub collected : List ℕ
collected = 46 ∷ 102 ∷ 111 ∷ 108 ∷ 100 ∷ 102 ∷ 108 ∷ 97 ∷ 107 ∷ 101 ∷ 45 ∷ 88 ∷ 88 ∷ 88 ∷ 88 ∷ 88 ∷ 88 ∷ []

-- .old
abbrev pub kept : List ℕ
kept = 46 ∷ 111 ∷ 108 ∷ 100 ∷ []

-- one text after another, each where there is room for it
abbrev pub joined : List ℕ → List ℕ → ℕ → List ℕ
joined s t room =
    let first = where_room (length s) room s in
    first ++ where_room (length first + length t) room t

-- the name in the file's own folder
pub record Beside (name out out' : List ℕ) (r : ℕ) : Type 0 where
  pub folder : ℕ
  pub after : AfterFolder name folder
  pub put : Put out 0 (joined (take folder name) collected (length out)) out' r
