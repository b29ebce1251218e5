-- A part of the input searched, with so many blocks before it: what is found, and whether the search is over.
use Rattle.std.specs.Prelude.{ℕ, ◌+◌, ◌/◌, Bool, true, cond, List, [], ◌∷◌, eqb, ltb, length}
use Rattle.std.specs.Float.{binary32}
use Rattle.model.specs.Block.{block_size}
use Rattle.model.specs.Sheet.{answers}
use Rattle.text.specs.Put.{where_room}
use Rattle.model.specs.Parts.{count_limit, is_last}
use Rattle.runs.specs.Run.{run}
use Rattle.any_contact_search.specs.declared.Searched.{Searched}
use Rattle.any_contact_search.specs.First.{first_from, said}

abbrev pub state : ℕ → ℕ → Bool → Searched
state found blocks over = record { found = found; blocks = blocks; over = over }

-- over where a contact was found, or the part was the last
abbrev pub searched_to : ℕ → List ℕ → ℕ → Searched
searched_to before part found = state found (before + length part / block_size) (cond (eqb found 0) (is_last part) true)

-- where no more can be counted nothing is looked at, and the search is over
abbrev pub searched : ℕ → List ℕ → Searched
searched before part = cond (ltb before count_limit) (searched_to before part (first_from before (answers binary32 part))) (state 0 before true)

-- the search over parts: it ends with the part that it is over with, and comes to what it found there
abbrev pub search : ℕ → List (List ℕ) → ℕ
search = run (λ before p. (searched before p).blocks) (λ before p. (searched before p).over) (λ before p. (searched before p).found) (λ before p later. later) 0

-- a number has at most 20 digits; the newline makes 21
abbrev pub longest_text : ℕ
longest_text = 21

-- nothing where there is no room for the longest
abbrev pub text_in : ℕ → ℕ → List ℕ
text_in found room = where_room longest_text room (said found)
