-- What is said of a block's whole move. Which of two sound answers comes is the search's, so this is a promise: an answer that came is one of those allowed.
use Rattle.std.specs.Prelude.{◌≡◌, ℕ, Bool, true, false, List, [], ◌∷◌, eqb, length, Result, Ok, Err}
use Rattle.std.specs.Float.{binary32}
use Rattle.std.specs.Float.Ieee.{of_bits}
use Rattle.model.specs.declared.Block.{Block}
use Rattle.model.specs.declared.BlockRefusal.{BlockRefusal}
use Rattle.model.specs.Block.{block_size, checked_block}
use Rattle.model.specs.Work.{points_a, points_b, numbers_of}
use Rattle.clearance_call.specs.declared.Cleared.TheVariants as cleared
use Rattle.clearance_call.specs.Call.{Told}
use Rattle.clearance_block.specs.declared.BlockCleared.{BlockCleared}

abbrev pub refused_block : (job number : ℕ) → BlockCleared
refused_block job number = record { job = job; answer = cleared.Refused number }

-- of a block that passed: its job, and what the call says of its own numbers, from the fraction 0 on
pub record Looked (b : List ℕ) (k : Block) (a : BlockCleared) : Type 0 where
  pub job : a.job ≡ k.job
  pub told : Told (points_a b k) (points_b b k) (numbers_of b) (of_bits binary32 0) a.answer

-- a block that did not pass is refused as on the sheet
abbrev pub AnswerBy : List ℕ → Result Block BlockRefusal → BlockCleared → Type 0
AnswerBy b (Ok k) a = Looked b k a
AnswerBy b (Err r) a = a ≡ refused_block r.job r.number

-- by whether it has all its bytes
abbrev pub AnswerIf : Bool → List ℕ → BlockCleared → Type 0
AnswerIf true b a = AnswerBy b (checked_block b) a
AnswerIf false b a = a ≡ refused_block 0 9

unfoldable pub AnswerOf : List ℕ → BlockCleared → Type 0
AnswerOf b a = AnswerIf (eqb (length b) block_size) b a

-- one answer for each block, in order
unfoldable pub AnswersOf : List (List ℕ) → List BlockCleared → Type 0
AnswersOf [] [] = Unit {0}
AnswersOf [] (a ∷ later) = ⊥
AnswersOf (b ∷ bs) [] = ⊥
AnswersOf (b ∷ bs) (a ∷ later) = AnswerOf b a × AnswersOf bs later
