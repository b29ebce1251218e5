-- Slips that look harmless, each with what the definition says where it would show, computed. Assumes nothing.
use Rattle.std.proofs.Common.{◌≡◌, [], ◌∷◌, refl}
use Rattle.model.specs.Wire.{word}
use Rattle.model.specs.Block.{sum_of_words, refused}
use Rattle.job_text.specs.Job.{plain_block, field, head_word}

-- one point of A, two of B
counts-swapped : head_word (7 ∷ 1 ∷ 2 ∷ []) 1 ≡ 513
counts-swapped = refl

-- a NaN that signals is taken as it is
nan-made-quiet : field (0x7F800001 ∷ []) 0 ≡ 0x7F800001
nan-made-quiet = refl

-- nothing but byte 6, of form 2
other-form-read : plain_block (0 ∷ 0 ∷ 0 ∷ 0 ∷ 0 ∷ 0 ∷ 2 ∷ []) ≡ refused 0 10
unfolding plain_block sum_of_words word
other-form-read = refl
