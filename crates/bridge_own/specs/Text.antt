-- Text that depends on the format, at either of the two: what `fields` and `sheet_lines` say of binary32, and their f64 crates of binary64.
use Rattle.std.specs.Prelude.{ℕ, cond, List, [], ◌∷◌, ◌++◌, ltb, Float}
use Rattle.std.specs.Float.{Format}
use Rattle.model.specs.declared.Contact.{Contact}
use Rattle.model.specs.Text.{hex_float}
use Rattle.model.specs.Sheet.{answer_line}
use Rattle.model.specs.Work.{BlockAnswer}

-- the five floats of a contact, a blank after each
abbrev pub floats_at : Format → Contact → List ℕ
floats_at f c =
    let hex : Float → List ℕ = λ x. hex_float f x ++ (32 ∷ []) in
    hex c.fraction ++ hex c.point.x ++ hex c.point.y ++ hex c.normal.x ++ hex c.normal.y

-- the line of block n, where there is room for the longest
abbrev pub line_at : Format → ℕ → ℕ → BlockAnswer → ℕ → List ℕ
line_at f longest n x room = cond (ltb room longest) [] (answer_line f n x)
