-- A block in the other form, and one with two neighbouring words exchanged.
use Rattle.std.specs.Prelude.{ℕ, ◌+◌, ◌-◌, ◌*◌, ◌%◌, ◌^◌, cond, List, eqb, set}
use Rattle.std.proofs.lemmas.List.Edits.{sets}
use Rattle.model.specs.Wire.{byte}
use Rattle.model.specs.Block.{sum_before}
use Rattle.wire.specs.Bytes.{word_bytes}

-- b with four bytes from place k on
abbrev pub with_four : List ℕ → ℕ → ℕ → ℕ → ℕ → ℕ → List ℕ
with_four b k w x y z = set (set (set (set b k w) (k + 1) x) (k + 2) y) (k + 3) z

-- ---- the other form
-- 2 for 0, and 0 for 2
abbrev pub other_number : ℕ → ℕ
other_number form = cond (eqb form 0) 2 0

-- the word that makes FFFFFFFF with what stands before it, in the form that byte 6 says
abbrev pub fitting_check : List ℕ → ℕ
fitting_check b = 4294967295 - sum_before (byte b 6) b % 2 ^ 32

abbrev pub with_check : List ℕ → ℕ → List ℕ
with_check b c = sets b 508 (word_bytes c)

unfoldable pub sealed : List ℕ → List ℕ
sealed b = with_check b (fitting_check b)

unfoldable pub other_form : List ℕ → List ℕ
other_form b = sealed (set b 6 (other_number (byte b 6)))

-- ---- words i and i + 1 exchanged
abbrev pub next_first : List ℕ → ℕ → List ℕ
next_first b k = with_four b k (byte b (k + 4)) (byte b (k + 5)) (byte b (k + 6)) (byte b (k + 7))

abbrev pub first_next : List ℕ → List ℕ → ℕ → List ℕ
first_next b c k = with_four c (k + 4) (byte b k) (byte b (k + 1)) (byte b (k + 2)) (byte b (k + 3))

unfoldable pub exchanged : List ℕ → ℕ → List ℕ
exchanged b i = first_next b (next_first b (4 * i)) (4 * i)
