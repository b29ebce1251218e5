-- Slips that look harmless, each with what the definition says where it would show, computed. Assumes nothing.
use Rattle.std.proofs.Common.{◌≡◌, ℕ, true, false, List, [], ◌∷◌, ◌++◌, replicate, refl}
use Rattle.model.specs.Wire.{word}
use Rattle.model.specs.Block.{sum_of_words, weighed_words, all_zero, bad_count, zeros_hold, refused}
use Rattle.model.specs.Blocks.{is_good}

count-17-passes : (bad_count 16 ≡ false) × (bad_count 17 ≡ true)
count-17-passes = (refl, refl)

-- a second word of 1
abbrev second : List ℕ
second = 0 ∷ 0 ∷ 0 ∷ 0 ∷ 1 ∷ []

form-1-summed-as-form-2 : sum_of_words second 128 ≡ 1
unfolding sum_of_words word
form-1-summed-as-form-2 = refl

weights-from-zero : weighed_words second 127 ≡ 2
unfolding weighed_words word
weights-from-zero = refl

-- one point each, and a byte behind A's
unused-points-not-looked-at : zeros_hold ((1 ∷ 0 ∷ 0 ∷ 0 ∷ 1 ∷ 1 ∷ 0 ∷ 0 ∷ replicate 104 0) ++ (1 ∷ [])) ≡ false
unfolding all_zero
unused-points-not-looked-at = refl

checked-by-10-alone : (is_good (refused 0 13) ≡ false) × (is_good (refused 7 11) ≡ false)
checked-by-10-alone = (refl, refl)
