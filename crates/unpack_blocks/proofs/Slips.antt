-- Slips that look harmless, each with what the definition says where it would show, computed. Assumes nothing.
use mathlib.Core.Path.{◌≡◌, refl}
use mathlib.Core.List.{[], ◌∷◌}
use Rattle.model.specs.Text.{decimal_by}
use Rattle.job_text.specs.Room.{refusal}
use Rattle.unpack_blocks.specs.Unpack.{refusals_of}

-- a block of one byte: `1 9`
blocks-numbered-from-zero : refusals_of 0 ((1 ∷ []) ∷ []) ≡ 49 ∷ 32 ∷ 57 ∷ 10 ∷ []
unfolding refusals_of refusal decimal_by
blocks-numbered-from-zero = refl
