-- A part of the input searched, with so many blocks before it: what is found, and whether the search is over; the text that tells it; and a run over parts.
use Rattle.std.specs.Prelude.{◌≡◌, ℕ, zero, suc, ◌+◌, ◌≤◌, ◌<◌, Bool, true, cond, ◌||◌, List, [], ◌∷◌, eqb, ltb, length, take, get_or}
use Rattle.model.specs.Blocks.{blocks}
use Rattle.model.specs.Parts.{count_limit, is_last}
use Rattle.text.specs.Put.{number, where_room}
use Rattle.runs.specs.Run as Run
use Rattle.all_clear_search.specs.declared.Searched.{Searched}
use Rattle.all_clear_search.specs.First.{AllClear, NotCleared, Found}

-- ---- a part. Where no more can be counted nothing is looked at, the search is over, and it tells nothing, as where no block came.
abbrev pub blocks_after : ℕ → List ℕ → ℕ
blocks_after before part = cond (ltb before count_limit) (before + length (blocks part)) 0

-- over where a block is not clear, or the part was the last
abbrev pub is_over : ℕ → List ℕ → ℕ → Bool
is_over before part found = cond (ltb before count_limit) (ltb 0 found || is_last part) true

pub record PartSearched (before : ℕ) (part : List ℕ) (r : Searched) : Type 0 where
  pub sound : before < count_limit → Found before (blocks part) r.found
  pub uncounted : count_limit ≤ before → r.found ≡ 0
  pub blocks : r.blocks ≡ blocks_after before part
  pub over : r.over ≡ is_over before part r.found

-- ---- the text
abbrev pub none_text : List ℕ
none_text = 110 ∷ 111 ∷ 110 ∷ 101 ∷ 10 ∷ []

-- the number, or `none` where blocks came, and a newline
abbrev pub said : (found blocks : ℕ) → List ℕ
said found blocks = cond (ltb 0 found) (number found 10) (cond (eqb blocks 0) [] none_text)

-- a number has at most 20 digits; the newline makes 21
abbrev pub longest_text : ℕ
longest_text = 21

-- nothing where there is no room for the longest
abbrev pub text_in : (found blocks room : ℕ) → List ℕ
text_in found blocks room = where_room longest_text room (said found blocks)

-- ---- a run over parts, where `clears` says of each block of the file, by its place, whether it was cleared
module _ (clears : ℕ → Bool) where
  unfoldable pub first_at : ℕ → ℕ → ℕ
  first_at n zero = 0
  first_at n (suc k) = cond (clears n) (first_at (n + 1) k) (n + 1)

  abbrev pub found_in : ℕ → List ℕ → ℕ
  found_in n part = cond (ltb n count_limit) (first_at n (length (blocks part))) 0

  -- it ends with the part that it is over with, and comes to the text that tells what was found there
  abbrev pub run : ℕ → List (List ℕ) → List ℕ
  run = Run.run blocks_after (λ n p. is_over n p (found_in n p)) (λ n p. said (found_in n p) (blocks_after n p)) (λ n p later. later) []

  -- what `search_part` promises of a part, step by step, up to the part that ends the search
  unfoldable pub EachPart : ℕ → List (List ℕ) → Type 0
  EachPart n [] = Unit {0}
  EachPart n (p ∷ ps) = Found n (blocks p) (found_in n p) × (found_in n p ≡ 0 → EachPart (blocks_after n p) ps)

-- ---- what a file's text says. After `none` blocks came, and all of them are clear; after a number all blocks before it are.
pub data Answered (b text : List ℕ) : Type 0 where
  no_block : text ≡ [] → blocks b ≡ [] → Answered b text
  all-clear : text ≡ none_text → 0 < length (blocks b) → AllClear (blocks b) → Answered b text
  first : (j : ℕ) → text ≡ number (j + 1) 10 → j < length (blocks b) → AllClear (take j (blocks b)) → NotCleared (get_or (blocks b) j []) → Answered b text
