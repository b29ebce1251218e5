-- The gaps of a batch: of each block that is worked the distance of its outlines, without radii, at 257 fractions of its moves. Each is the distance
-- call's answer at that fraction; nothing is said of the moments between.
use Rattle.std.specs.Prelude.{ℕ, zero, suc, ◌+◌, pos, List, [], ◌∷◌, ◌++◌, Float, Ok, Err}
use Rattle.std.specs.Float.{Format}
use Rattle.std.specs.Float.Ieee.{of_int, mul, div}
use Rattle.model.specs.declared.Sweep.{Sweep}
use Rattle.model.specs.Ground.{constant}
use Rattle.model.specs.Support.{point}
use Rattle.model.specs.Text.{decimal, hex_float, line}
use Rattle.model.specs.Block.{block_of}
use Rattle.model.specs.Blocks.{blocks}
use Rattle.model.specs.Work.{move_at, numbers_of, points_a, points_b, BlockAnswer}
use Rattle.model.specs.Sheet.{answer_of, refused_line}
use Rattle.at_fraction.specs.Moment.{gap}
use Rattle.gaps_lines.specs.declared.part.Tally.{Tally}

-- no line is longer: two numbers of up to 20 digits and a blank, the 0 with its blank, 257 gaps of eight digits and a byte: 2,357
abbrev pub longest_line : ℕ
longest_line = 2400

-- ---- the gaps of two moves
-- the k-th of 256 steps from 0 to the max fraction: k / 256 is exact, and the product is rounded once
unfoldable pub fraction_at : Format → Float → ℕ → Float
fraction_at f most k = mul f most (div f (of_int f (pos k)) (constant f 0x4380_0000 0x4070_0000_0000_0000))

module _ (f : Format) (outline_a : List Float) (wa : Sweep) (outline_b : List Float) (wb : Sweep) (most : Float) where
  unfoldable pub gap_at : ℕ → Float
  gap_at k = gap f outline_a wa outline_b wb (fraction_at f most k)

  -- so many of them as fields of a line, from the k-th on
  unfoldable pub gap_fields : ℕ → ℕ → List (List ℕ)
  gap_fields k zero = []
  gap_fields k (suc n) = hex_float f (gap_at k) ∷ gap_fields (k + 1) n

-- ---- lines
-- of a block: its outlines and moves, and its max fraction
unfoldable pub block_gaps : Format → List ℕ → List (List ℕ)
block_gaps f b =
    gap_fields f (points_a b (block_of b)) (move_at (numbers_of b) 2) (points_b b (block_of b)) (move_at (numbers_of b) 7) (point (numbers_of b) 1).x 0 257

unfoldable pub worked_line : Format → ℕ → ℕ → List ℕ → List ℕ
worked_line f n job b = line (decimal n ∷ decimal job ∷ (48 ∷ []) ∷ block_gaps f b)

-- by the answer that the block has on the sheet: what is refused there is refused here, by the same line
abbrev pub line_by : Format → ℕ → List ℕ → BlockAnswer → List ℕ
line_by f n b (Ok w) = worked_line f n w.job b
line_by f n b (Err r) = refused_line n r.job r.number

abbrev pub line_of : Format → ℕ → List ℕ → List ℕ
line_of f n b = line_by f n b (answer_of f b)

-- the lines of blocks that follow n others
unfoldable pub lines_from : Format → ℕ → List (List ℕ) → List ℕ
lines_from f n [] = []
lines_from f n (b ∷ bs) = line_of f (n + 1) b ++ lines_from f (n + 1) bs

-- ---- totals
abbrev pub tally : ℕ → ℕ → Tally
tally blocks refused = record { blocks = blocks; refused = refused }

abbrev pub none : Tally
none = tally 0 0

abbrev pub counted : Tally → BlockAnswer → Tally
counted t (Ok w) = tally (t.blocks + 1) t.refused
counted t (Err r) = tally (t.blocks + 1) (t.refused + 1)

-- of blocks, from a given tally on
unfoldable pub tally_from : Format → Tally → List (List ℕ) → Tally
tally_from f t [] = t
tally_from f t (b ∷ bs) = tally_from f (counted t (answer_of f b)) bs

-- TOTAL and the two numbers
unfoldable pub total_line : Tally → List ℕ
total_line t = line ((84 ∷ 79 ∷ 84 ∷ 65 ∷ 76 ∷ []) ∷ decimal t.blocks ∷ decimal t.refused ∷ [])

-- ---- the whole text
-- what blocks add to it, from a tally before them on, where nothing follows
abbrev pub text_from : Format → Tally → List ℕ → List ℕ
text_from f t b = lines_from f t.blocks (blocks b) ++ total_line (tally_from f t (blocks b))

unfoldable pub gaps_of : Format → List ℕ → List ℕ
gaps_of f b = text_from f none b
