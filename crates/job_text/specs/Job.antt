-- A job's line and its block. The line of a block is given by its fields; a line is a job where it is the line of a block that passes.
use Rattle.std.specs.Prelude.{ℕ, zero, suc, ◌+◌, ◌-◌, ◌*◌, ◌%◌, ◌^◌, Bool, true, false, cond, ◌&&◌, List, [], ◌∷◌, ◌++◌, replicate, ◌==◌, nat_lt, slice_index, Result}
use Rattle.model.specs.declared.Block.{Block}
use Rattle.model.specs.declared.BlockRefusal.{BlockRefusal}
use Rattle.model.specs.Wire.{byte, word}
use Rattle.model.specs.Block.{job_of, most_points, sum_of_words, checked_block, refused}
use Rattle.model.specs.Blocks.{is_good}
use Rattle.model.specs.Text.{decimal, hex_by, line}
use Rattle.wire.specs.Bytes.{word_bytes}
use Rattle.text.specs.Put.{where_room}
use Rattle.text.specs.Read.{stored}

-- ---- a block of form 1
-- byte 6 is 0, and `sheet` reads it; another is refused by 10 or 11, by the sum of form 1
abbrev pub other_form : Bool → ℕ → Result Block BlockRefusal
other_form sum job = cond sum (refused job 11) (refused 0 10)

unfoldable pub plain_block : List ℕ → Result Block BlockRefusal
plain_block b = cond (byte b 6 == 0) (checked_block b) (other_form (sum_of_words b 128 % 2 ^ 32 == 4294967295) (job_of b))

-- ---- from block to line
-- where the words of a line stand in a block whose outline A has that many points: radii to sweep B, the points of A, the points of B
abbrev pub place_of : ℕ → ℕ → ℕ
place_of a j = cond (nat_lt j 24) (8 + 4 * j) (cond (nat_lt j (24 + 2 * a)) (104 + 4 * (j - 24)) (232 + 4 * (j - (24 + 2 * a))))

-- the first n of them
unfoldable pub words_of : List ℕ → ℕ → List ℕ
words_of b zero = []
words_of b (suc n) = words_of b n ++ (word b (place_of (byte b 4) n) ∷ [])

abbrev pub word_count : List ℕ → ℕ
word_count b = 24 + 2 * byte b 4 + 2 * byte b 5

unfoldable pub hexes : List ℕ → List (List ℕ)
hexes [] = []
hexes (w ∷ ws) = hex_by 8 w ∷ hexes ws

unfoldable pub job_line : List ℕ → List ℕ
job_line b = line (decimal (job_of b) ∷ decimal (byte b 4) ∷ decimal (byte b 5) ∷ hexes (words_of b (word_count b)))

-- no job's line is longer, its newline included: three numbers of 21 bytes at most, and 88 words of nine
abbrev pub longest_line : ℕ
longest_line = 855

-- where the counts are those of outlines and there is room for the longest line
abbrev pub line_for : List ℕ → ℕ → ℕ → List ℕ
line_for b at room = cond (nat_lt most_points (byte b 4)) [] (cond (nat_lt most_points (byte b 5)) [] (where_room (at + longest_line) room (job_line b)))

-- ---- from the numbers of a line to a block; one that is missing counts as 0
abbrev pub field : List ℕ → ℕ → ℕ
field ns k = slice_index ns k

-- a count that no block can have is taken for the largest: the block's line is then another
abbrev pub count_at : List ℕ → ℕ → ℕ
count_at ns k = cond (nat_lt most_points (field ns k)) most_points (field ns k)

abbrev pub head_word : List ℕ → ℕ → ℕ
head_word ns i = cond (i == 0) (field ns 0) (cond (i == 1) (count_at ns 1 + 256 * count_at ns 2) (field ns (i + 1)))

-- word p of an outline of n words that start at that number; 0 where the outline has no such word
abbrev pub point_word : List ℕ → ℕ → ℕ → ℕ → ℕ
point_word ns p n from = cond (nat_lt p n) (field ns (from + p)) 0

-- word i of the block, the last excepted
unfoldable pub word_at : List ℕ → ℕ → ℕ
word_at ns i =
    cond (nat_lt i 26) (head_word ns i)
    (cond (nat_lt i 58) (point_word ns (i - 26) (2 * count_at ns 1) 27) (point_word ns (i - 58) (2 * count_at ns 2) (27 + 2 * count_at ns 1)))

unfoldable pub first_words : List ℕ → ℕ → List ℕ
first_words ns zero = []
first_words ns (suc n) = first_words ns n ++ word_bytes (word_at ns n)

unfoldable pub sum_of_first : List ℕ → ℕ → ℕ
sum_of_first ns zero = 0
sum_of_first ns (suc n) = sum_of_first ns n + word_at ns n

-- with the check that makes all words FFFFFFFF
unfoldable pub block_from : List ℕ → List ℕ
block_from ns = first_words ns 127 ++ word_bytes (4294967295 - sum_of_first ns 127 % 2 ^ 32)

-- ---- from line to block
-- a job has at most 91 numbers, three of them decimal
abbrev pub most_numbers : ℕ
most_numbers = 91

abbrev pub numbers_of : List ℕ → List ℕ
numbers_of l = stored 3 0 0 (replicate most_numbers 0) l

unfoldable pub block_for : List ℕ → List ℕ
block_for l = block_from (numbers_of l)

-- two lists are one
unfoldable pub same : List ℕ → List ℕ → Bool
same [] [] = true
same [] (y ∷ ys) = false
same (x ∷ xs) [] = false
same (x ∷ xs) (y ∷ ys) = x == y && same xs ys

-- a block passes and has that line
abbrev pub has_line : List ℕ → List ℕ → Bool
has_line b l = is_good (plain_block b) && same (job_line b) l

-- the decision, for every list of bytes
unfoldable pub is_job : List ℕ → Bool
is_job l = has_line (block_for l) l
