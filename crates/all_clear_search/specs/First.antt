-- The first block of a batch that is not proved clear over its whole move. Which of two sound answers comes is the search's, so this is a promise: what a
-- number, or that there is none, says of the blocks.
use Rattle.std.specs.Prelude.{◌≡◌, ℕ, ◌+◌, ◌<◌, Bool, true, false, List, [], ◌∷◌, length, take, get_or, Ok}
use Rattle.std.specs.Float.{binary32}
use Rattle.std.specs.Float.Ieee.{of_bits}
use Rattle.model.specs.declared.Block.{Block}
use Rattle.model.specs.Block.{block_size, checked_block}
use Rattle.model.specs.Work.{points_a, points_b, numbers_of}
use Rattle.planned.specs.Planned as planned
use Rattle.clearance_call.specs.declared.Cleared.{Cleared}
use Rattle.clearance_call.specs.declared.Cleared.TheVariants.{Refused, Clear, Touch, Open}
use Rattle.clearance_block.specs.declared.BlockCleared.{BlockCleared}
use Rattle.clearance_block.specs.Answer.{AnswerOf}

-- TOUCH, OPEN and a refusal do not clear a move
abbrev pub is_clear : Cleared → Bool
is_clear (Refused number) = false
is_clear (Clear pieces) = true
is_clear (Touch u t pieces) = false
is_clear (Open u pieces) = false

-- a block that passes its checks, and whose bodies are farther apart than the distance to keep at every fraction of its move
pub record ClearBlock (b : List ℕ) : Type 0 where
  pub whole : length b ≡ block_size
  pub block : Block
  pub good : checked_block b ≡ Ok block
  pub clear : planned.Clear (points_a b block) (points_b b block) (numbers_of b) (of_bits binary32 0)

unfoldable pub AllClear : List (List ℕ) → Type 0
AllClear [] = Unit {0}
AllClear (b ∷ later) = ClearBlock b × AllClear later

-- a block that is refused, or whose answer is TOUCH or OPEN
pub record NotCleared (b : List ℕ) : Type 0 where
  pub came : BlockCleared
  pub sound : AnswerOf b came
  pub other : is_clear came.answer ≡ false

-- what was found among blocks that follow n others: 0 where all are clear, else the number of the first that was not cleared
pub data Found (n : ℕ) (bs : List (List ℕ)) (found : ℕ) : Type 0 where
  none : found ≡ 0 → AllClear bs → Found n bs found
  first : (j : ℕ) → found ≡ n + j + 1 → j < length bs → AllClear (take j bs) → NotCleared (get_or bs j []) → Found n bs found
