-- A job's line by its grammar: the job and both counts in decimal, then the words, a blank between fields and a newline at the end; and the block
-- that has what it says. The grammar speaks neither of blocks nor of what a program prints.
use Rattle.std.specs.Prelude.{◌≡◌, ℕ, ◌+◌, ◌*◌, ◌^◌, ◌≤◌, ◌<◌, List, [], ◌∷◌, ◌++◌, map, length}
use Rattle.model.specs.Wire.{byte}
use Rattle.model.specs.Block.{job_of}
use Rattle.numerals.specs.Numerals.{Decimal, Capitals, word_from}
use Rattle.job_text.specs.Job.{words_of, word_count}

-- ---- the words
-- each has eight digits, 0 to 9 and A to F
unfoldable pub Words : List (List ℕ) → Type 0
Words [] = Unit {0}
Words (w ∷ ws) = Capitals w × (length w ≡ 8) × Words ws

-- a blank before each, and a newline behind the last
unfoldable pub words_text : List (List ℕ) → List ℕ
words_text [] = 10 ∷ []
words_text (w ∷ ws) = 32 ∷ (w ++ words_text ws)

-- the numbers that they say
abbrev pub numbers_of : List (List ℕ) → List ℕ
numbers_of ws = map (word_from 0) ws

-- ---- the line
pub record JobLine (l : List ℕ) : Type 0 where
  pub job : ℕ
  pub points-a : ℕ
  pub points-b : ℕ
  pub job-text : List ℕ
  pub a-text : List ℕ
  pub b-text : List ℕ
  pub words : List (List ℕ)
  pub job-said : Decimal job-text job
  pub a-said : Decimal a-text points-a
  pub b-said : Decimal b-text points-b
  pub job-fits : job < 2 ^ 32
  pub a-most : points-a ≤ 16
  pub b-most : points-b ≤ 16
  pub each_word : Words words
  pub as_many : length words ≡ 24 + 2 * points-a + 2 * points-b
  pub whole : l ≡ job-text ++ (32 ∷ (a-text ++ (32 ∷ (b-text ++ words_text words))))

-- ---- a block that has what a line says: the job, the counts, and in their places the words of the radii, the moves and the points
pub record Has (b : List ℕ) (l : List ℕ) (g : JobLine l) : Type 0 where
  pub job : job_of b ≡ g.job
  pub points-a : byte b 4 ≡ g.points-a
  pub points-b : byte b 5 ≡ g.points-b
  pub words : words_of b (word_count b) ≡ numbers_of g.words
