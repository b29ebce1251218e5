-- Slips that look harmless, each with what the definition says where it would show, computed. Assumes nothing.
use mathlib.Core.Path.{◌≡◌, refl}
use mathlib.Core.List.{[], ◌∷◌}
use Rattle.model.specs.Wire.{word}
use Rattle.model.specs.Block.{sum_of_words, all_zero, checked_block}
use Rattle.model.specs.Text.{decimal_by, hex_by, line}
use Rattle.text.specs.Read.{stored}
use Rattle.job_text.specs.Job.{words_of, hexes, job_line, plain_block, word_at, first_words, sum_of_first, block_from, block_for, same, is_job}
use Rattle.job_text.specs.Room.{refusal}
use Rattle.pack_lines.specs.Pack.{held_of, last_for, run_over, pack_told}

-- an empty line: `1 14`
lines-numbered-from-zero : pack_told (10 ∷ []) ≡ 49 ∷ 32 ∷ 49 ∷ 52 ∷ 10 ∷ []
unfolding run_over refusal is_job block_for block_from first_words sum_of_first word_at same job_line words_of hexes plain_block checked_block sum_of_words all_zero word decimal_by hex_by line stored
lines-numbered-from-zero = refl

-- one byte and no newline: `1 14`
unfinished-first-line-not-told : last_for (held_of (55 ∷ []) 0) 42 ≡ 49 ∷ 32 ∷ 49 ∷ 52 ∷ 10 ∷ []
unfolding refusal decimal_by
unfinished-first-line-not-told = refl
