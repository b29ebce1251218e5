-- The lines, cut into the pieces in which they are written.
use Rattle.std.specs.Prelude.{ℕ, zero, suc, ◌+◌, ◌*◌, List, [], ◌++◌, Float}
use Rattle.std.specs.Float.{binary32}
use Rattle.std.specs.Float.Ieee.{to_bits, of_bits}
use Rattle.model.specs.declared.Sweep.{Sweep}
use Rattle.model.specs.Wire.{byte, word}
use Rattle.model.specs.Work.{floats_at, move_at}
use Rattle.text.specs.Put.{number, hex}
use Rattle.gaps_lines.specs.Gaps.{gap_at}

unfoldable pub two : ℕ → ℕ → ℕ → List ℕ
two a b end = number a 32 ++ number b end

-- eight digits and a byte
abbrev pub gap_room : ℕ
gap_room = 9

-- 257 of them
abbrev pub gaps_room : ℕ
gaps_room = 2313

module _ (outline_a : List Float) (wa : Sweep) (outline_b : List Float) (wb : Sweep) (most : Float) where
  unfoldable pub gap_text : ℕ → ℕ → List ℕ
  gap_text k end = hex (to_bits binary32 (gap_at binary32 outline_a wa outline_b wb most k)) end

  -- so many gaps from the k-th on, and a blank after each
  unfoldable pub gap_texts : ℕ → ℕ → List ℕ
  gap_texts k zero = []
  gap_texts k (suc n) = gap_text k 32 ++ gap_texts (k + 1) n

  unfoldable pub gaps_text : List ℕ
  gaps_text = gap_texts 0 256 ++ gap_text 256 10

-- of a block, by the places of its floats
unfoldable pub block_text : List ℕ → List ℕ
block_text b =
    gaps_text (floats_at b 104 (2 * byte b 4)) (move_at (floats_at b 24 10) 0) (floats_at b 232 (2 * byte b 5)) (move_at (floats_at b 64 10) 0)
    (of_bits binary32 (word b 16))
