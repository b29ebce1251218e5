-- What a reader counts on a printed sheet: its lines one by one, and the letter that each prints.
use Rattle.std.specs.Prelude.{ℕ, zero, suc, ◌+◌, cond, List, [], ◌∷◌, ◌++◌, eqb, get_or}
use Rattle.std.specs.Float.{Format}
use Rattle.model.specs.Sheet.{answers, answer_line}
use Rattle.model.specs.Work.{BlockAnswer}

-- what stands behind the k-th blank
unfoldable pub after_blanks : ℕ → List ℕ → List ℕ
after_blanks zero l = l
after_blanks (suc k) [] = []
after_blanks (suc k) (x ∷ l) = cond (eqb x 32) (after_blanks k l) (after_blanks (suc k) l)

-- the letter that a line prints as its fourth field; 0 where it has none
abbrev pub printed_letter : List ℕ → ℕ
printed_letter l = get_or (after_blanks 3 l) 0 0

-- the lines of answers that follow n others, one by one
unfoldable pub lines_one_by_one : Format → ℕ → List BlockAnswer → List (List ℕ)
lines_one_by_one f n [] = []
lines_one_by_one f n (x ∷ xs) = answer_line f (n + 1) x ∷ lines_one_by_one f (n + 1) xs

-- of a file: all that its sheet has before TOTAL
abbrev pub sheet_lines : Format → List ℕ → List (List ℕ)
sheet_lines f b = lines_one_by_one f 0 (answers f b)

-- how many lines print that letter
unfoldable pub how_many : ℕ → List (List ℕ) → ℕ
how_many letter [] = 0
how_many letter (l ∷ r) = cond (eqb (printed_letter l) letter) 1 0 + how_many letter r
