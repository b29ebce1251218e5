-- Lines beside the grammar, one for each rule of it that a line can break, computed: the reader takes none of them for a job, so none is of the
-- grammar. And one that is. Assumes nothing.
use mathlib.Core.Path.{◌≡◌, refl}
use mathlib.Core.Bool.{true, false}
use mathlib.Core.List.{List, [], ◌∷◌, ◌++◌}
use Prim.Native.Nat.{ℕ}
use native.Mathlib.Omega.{arith}
use lib.ListN.{take, replicate}
use Rattle.model.specs.Wire.{word}
use Rattle.model.specs.Block.{sum_of_words, all_zero, checked_block}
use Rattle.model.specs.Text.{decimal_by, decimal, hex_by, line}
use Rattle.text.specs.Read.{stored}
use Rattle.job_text.specs.Job.{words_of, hexes, job_line, plain_block, word_at, first_words, sum_of_first, block_from, block_for, same, is_job}
use Rattle.job_grammar.specs.Grammar.{JobLine}
use Rattle.job_grammar.proofs.Grammar.{grammar-is-job, job-is-grammar}

-- a first word, and that many others
abbrev fields : List ℕ → List ℕ → List ℕ → List ℕ → ℕ → List ℕ
fields job a b first more = line (job ∷ a ∷ b ∷ first ∷ hexes (replicate more 0x3F800000))

-- 7 1 1 0000ABCD and 27 words
abbrev fair : List ℕ
fair = fields (decimal 7) (decimal 1) (decimal 1) (hex_by 8 0xABCD) 27

abbrev leading_zero : List ℕ
leading_zero = 48 ∷ fair

abbrev job_zero : List ℕ
job_zero = fields (decimal 0) (decimal 1) (decimal 1) (hex_by 8 0xABCD) 27

abbrev job_too_large : List ℕ
job_too_large = fields (decimal 4294967296) (decimal 1) (decimal 1) (hex_by 8 0xABCD) 27

abbrev no_point : List ℕ
no_point = fields (decimal 7) (decimal 0) (decimal 1) (hex_by 8 0xABCD) 25

abbrev seventeen_points : List ℕ
seventeen_points = fields (decimal 7) (decimal 1) (decimal 17) (hex_by 8 0xABCD) 59

abbrev zero_before_count : List ℕ
zero_before_count = fields (decimal 7) (48 ∷ 49 ∷ []) (decimal 1) (hex_by 8 0xABCD) 27

-- 0000abcd
abbrev small_letters : List ℕ
small_letters = fields (decimal 7) (decimal 1) (decimal 1) (48 ∷ 48 ∷ 48 ∷ 48 ∷ 97 ∷ 98 ∷ 99 ∷ 100 ∷ []) 27

abbrev seven_digits : List ℕ
seven_digits = fields (decimal 7) (decimal 1) (decimal 1) (hex_by 7 0xABCD) 27

abbrev nine_digits : List ℕ
nine_digits = fields (decimal 7) (decimal 1) (decimal 1) (hex_by 9 0xABCD) 27

abbrev two_blanks : List ℕ
two_blanks = fields (decimal 7) (32 ∷ decimal 1) (decimal 1) (hex_by 8 0xABCD) 27

abbrev blank_first : List ℕ
blank_first = 32 ∷ fair

abbrev word_missing : List ℕ
word_missing = fields (decimal 7) (decimal 1) (decimal 1) (hex_by 8 0xABCD) 26

abbrev word_too_many : List ℕ
word_too_many = fields (decimal 7) (decimal 1) (decimal 1) (hex_by 8 0xABCD) 28

-- all but the last of its 258 bytes
abbrev no_newline : List ℕ
no_newline = take 257 fair

abbrev two_newlines : List ℕ
two_newlines = fair ++ (10 ∷ [])

pub rows : (is_job fair ≡ true) × (is_job leading_zero ≡ false) × (is_job job_zero ≡ false) × (is_job job_too_large ≡ false) × (is_job no_point ≡ false)
    × (is_job seventeen_points ≡ false) × (is_job zero_before_count ≡ false) × (is_job small_letters ≡ false) × (is_job seven_digits ≡ false)
    × (is_job nine_digits ≡ false) × (is_job two_blanks ≡ false) × (is_job blank_first ≡ false) × (is_job word_missing ≡ false) × (is_job word_too_many ≡ false)
    × (is_job no_newline ≡ false) × (is_job two_newlines ≡ false) × (no_newline ++ (10 ∷ []) ≡ fair)
unfolding is_job block_for block_from first_words sum_of_first word_at same job_line words_of hexes plain_block checked_block sum_of_words all_zero word decimal_by hex_by
    line stored
rows = (refl, refl, refl, refl, refl, refl, refl, refl, refl, refl, refl, refl, refl, refl, refl, refl, refl)

-- the grammar is not empty, and it leaves out what is no job
fair-is-of-the-grammar : JobLine fair
fair-is-of-the-grammar = job-is-grammar fair rows.0

pub no-job-no-grammar : (l : List ℕ) → is_job l ≡ false → JobLine l → ⊥
no-job-no-grammar l e g = let yes = grammar-is-job l g in let z : ◌≡◌ {A = ℕ} 0 1 = cc in omega arith
