-- Written by tests/written/wide.py from sheet_lines, in f64.
-- The lines, cut into the pieces in which they are written.
use Rattle.std.specs.Prelude.{ℕ, List, [], ◌∷◌, ◌++◌}
use Rattle.model.specs.declared.SupportPair.{SupportPair}
use Rattle.model.specs.declared.Corners.{Corners}
use Rattle.model.specs.Sheet.{corner_text}
use Rattle.text.specs.Put.{number}

unfoldable pub three : ℕ → ℕ → ℕ → ℕ → List ℕ
three a b c end = number a 32 ++ number b 32 ++ number c end

unfoldable pub corner : ℕ → ℕ → List ℕ
corner i end = corner_text i ++ (end ∷ [])

unfoldable pub pair_text : SupportPair → ℕ → List ℕ
pair_text p end = corner p.first 32 ++ corner p.second end

unfoldable pub corners_text : Corners → List ℕ
corners_text k = pair_text k.a 32 ++ pair_text k.b 10
