-- Lines that are jobs and lines that are not, computed. Assumes nothing.
use Rattle.std.proofs.Common.{◌≡◌, ℕ, true, false, List, ◌∷◌, replicate, refl}
use Rattle.model.specs.Wire.{word}
use Rattle.model.specs.Block.{sum_of_words, all_zero, checked_block}
use Rattle.model.specs.Text.{decimal_by, decimal, hex_by, line}
use Rattle.text.specs.Read.{stored}
use Rattle.job_text.specs.Job.{words_of, hexes, job_line, plain_block, word_at, first_words, sum_of_first, block_from, block_for, same, is_job}

-- so many points of A, one of B, and that many words, each a NaN that signals
abbrev shown : List ℕ → ℕ → ℕ → List ℕ
shown job a words = line (job ∷ decimal a ∷ decimal 1 ∷ hexes (replicate words 0x7F800001))

pub job : is_job (shown (decimal 7) 1 28) ≡ true
unfolding is_job block_for block_from first_words sum_of_first word_at same job_line words_of hexes plain_block checked_block sum_of_words all_zero word decimal_by hex_by
    line stored
job = refl

pub leading-zero : is_job (48 ∷ shown (decimal 7) 1 28) ≡ false
unfolding is_job block_for block_from first_words sum_of_first word_at same job_line words_of hexes plain_block checked_block sum_of_words all_zero word decimal_by hex_by
    line stored
leading-zero = refl

pub seventeen-points : is_job (shown (decimal 7) 17 60) ≡ false
unfolding is_job block_for block_from first_words sum_of_first word_at same job_line words_of hexes plain_block checked_block sum_of_words all_zero word decimal_by hex_by
    line stored
seventeen-points = refl

pub too_large : is_job (shown (decimal 4294967296) 1 28) ≡ false
unfolding is_job block_for block_from first_words sum_of_first word_at same job_line words_of hexes plain_block checked_block sum_of_words all_zero word decimal_by hex_by
    line stored
too_large = refl
