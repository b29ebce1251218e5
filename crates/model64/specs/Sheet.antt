-- Written by tests/written/wide.py from model, in f64.
-- The printed sheet. A file's answers are one for each of its blocks; its lines and its totals are folds of that list, and the text is both.
use Rattle.std.specs.Prelude.{ℕ, ◌+◌, Bool, cond, List, [], ◌∷◌, ◌++◌, map, eqb, length, Ok, Err}
use Rattle.std.specs.Float.{Format}
use Rattle.model.specs.declared.Status.{Status}
use Rattle.model.specs.declared.Status.TheVariants.{Overlapped, Hit, Separated, Failed}
use Rattle.model.specs.declared.Corners.{Corners}
use Rattle.model64.specs.declared.Verdict.{Verdict}
use Rattle.model.specs.declared.Totals.{Totals}
use Rattle.model.specs.Text.{decimal, hex_float, line}
use Rattle.model.specs.Separation.{no_index}
use Rattle.model.specs.Block.{block_size, refused}
use Rattle.model.specs.Blocks.{whole_blocks, blocks}
use Rattle.model64.specs.Work.{block_answer, BlockAnswer}
pub use Rattle.model.specs.Sheet.{letter_of}
unfoldable pub use Rattle.model.specs.Sheet.{refused_line}
pub use Rattle.model.specs.Sheet.{corner_text}
pub use Rattle.model.specs.Sheet.{corner_fields}
pub use Rattle.model.specs.Sheet.{totals}
pub use Rattle.model.specs.Sheet.{none}
pub use Rattle.model.specs.Sheet.{one_clear}
pub use Rattle.model.specs.Sheet.{one_contact}
pub use Rattle.model.specs.Sheet.{one_undecided}
pub use Rattle.model.specs.Sheet.{one_refused}
pub use Rattle.model.specs.Sheet.{one_worked}
unfoldable pub use Rattle.model.specs.Sheet.{total_line}

-- ---- the answers of a file
-- of a block, by its own bytes alone; one that is short is refused by 9
abbrev pub answer_of : Format → List ℕ → BlockAnswer
answer_of f x = cond (eqb (length x) block_size) (block_answer f x) (refused 0 9)

unfoldable pub answers : Format → List ℕ → List BlockAnswer
answers f b = map (answer_of f) (blocks b)

-- of its first k blocks, and of a rest of so many bytes: all of them, where the blocks are all that are whole
abbrev pub whole_answers : Format → ℕ → List ℕ → List BlockAnswer
whole_answers f k b = map (block_answer f) (whole_blocks k b)

abbrev pub rest_answer : ℕ → List BlockAnswer
rest_answer rest = cond (eqb rest 0) [] (refused 0 9 ∷ [])

-- what a worked block printed before it told corners
abbrev pub worked_fields : Format → ℕ → ℕ → Verdict → List (List ℕ)
worked_fields f n job v =
    decimal n ∷ decimal job ∷ (48 ∷ []) ∷ (letter_of v.status ∷ [])
    ∷ hex_float f v.contact.fraction
    ∷ hex_float f v.contact.point.x ∷ hex_float f v.contact.point.y
    ∷ hex_float f v.contact.normal.x ∷ hex_float f v.contact.normal.y
    ∷ decimal v.counts.distance_calls ∷ decimal v.counts.searches ∷ decimal v.counts.root_steps ∷ []

unfoldable pub worked_line : Format → ℕ → ℕ → Verdict → List ℕ
worked_line f n job v = line (worked_fields f n job v ++ corner_fields v.corners)

-- the line of block n
abbrev pub answer_line : Format → ℕ → BlockAnswer → List ℕ
answer_line f n (Ok w) = worked_line f n w.job w.verdict
answer_line f n (Err r) = refused_line n r.job r.number

-- the lines of answers that follow n others
unfoldable pub lines_from : Format → ℕ → List BlockAnswer → List ℕ
lines_from f n [] = []
lines_from f n (x ∷ xs) = answer_line f (n + 1) x ++ lines_from f (n + 1) xs

abbrev pub counted : Totals → BlockAnswer → Totals
counted t (Ok w) = one_worked t w.verdict.status
counted t (Err r) = one_refused t

-- the totals of answers, from given ones on
unfoldable pub totals_from : Totals → List BlockAnswer → Totals
totals_from t [] = t
totals_from t (x ∷ xs) = totals_from (counted t x) xs

-- ---- the run
-- what a part of a file adds to the text, from the totals before it on: its lines, and after the last part the totals
abbrev pub part_text : Format → Totals → List ℕ → Bool → List ℕ
part_text f t part last = lines_from f t.blocks (answers f part) ++ cond last (total_line (totals_from t (answers f part))) []

unfoldable pub sheet : Format → List ℕ → List ℕ
sheet f b = lines_from f 0 (answers f b) ++ total_line (totals_from none (answers f b))
