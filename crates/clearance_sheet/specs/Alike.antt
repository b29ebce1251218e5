-- Two answers to one block, that over its whole move and that of the sheet: refused both, by the same job and number, or neither.
use Rattle.std.specs.Prelude.{◌≡◌, List, [], ◌∷◌, Ok, Err}
use Rattle.model.specs.declared.Totals.{Totals}
use Rattle.model.specs.Work.{BlockAnswer}
use Rattle.clearance_call.specs.declared.Cleared.{Cleared}
use Rattle.clearance_call.specs.declared.Cleared.TheVariants.{Refused, Clear, Touch, Open}
use Rattle.clearance_block.specs.declared.BlockCleared.{BlockCleared}
use Rattle.clearance_block.specs.Answer.{refused_block}

abbrev pub NotRefused : Cleared → Type 0
NotRefused (Refused number) = ⊥
NotRefused (Clear pieces) = Unit {0}
NotRefused (Touch u t pieces) = Unit {0}
NotRefused (Open u pieces) = Unit {0}

abbrev pub Alike : BlockCleared → BlockAnswer → Type 0
Alike a (Err r) = a ≡ refused_block r.job r.number
Alike a (Ok w) = (a.job ≡ w.job) × NotRefused a.answer

-- of all blocks of a file, in order
unfoldable pub AllAlike : List BlockCleared → List BlockAnswer → Type 0
AllAlike [] [] = Unit {0}
AllAlike [] (x ∷ xs) = ⊥
AllAlike (a ∷ later) [] = ⊥
AllAlike (a ∷ later) (x ∷ xs) = Alike a x × AllAlike later xs

-- two TOTAL lines that count as many blocks and as many refused
pub record SameCounts (t s : Totals) : Type 0 where
  pub blocks : t.blocks ≡ s.blocks
  pub refused : t.refused ≡ s.refused
