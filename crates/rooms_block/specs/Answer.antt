-- What is said of a block: refused as on the sheet, or its room and its 64 cells, by its own numbers.
use Rattle.std.specs.Prelude.{◌≡◌, ◌<◌, IfSome, ℕ, Bool, true, false, List, [], ◌∷◌, eqb, Float, length, Result, Ok, Err}
use Rattle.std.specs.Float.{binary32}
use Rattle.std.specs.Float.Ieee.{of_bits}
use Rattle.model.specs.declared.Block.{Block}
use Rattle.model.specs.declared.BlockRefusal.{BlockRefusal}
use Rattle.model.specs.Support.{point}
use Rattle.model.specs.Block.{block_size, checked_block, refused}
use Rattle.model.specs.Work.{points_a, points_b, numbers_of}
use Rattle.clearance_call.specs.Call.{refusal_of}
use Rattle.rooms_block.specs.declared.Proved.{Proved}
use Rattle.rooms_block.specs.Rooms.{Keeps, CellsTo}

abbrev pub BlockRooms : Type 0
BlockRooms = Result Proved BlockRefusal

abbrev pub RefusedBy : ℕ → ℕ → BlockRooms → Type 0
RefusedBy j n r = r ≡ refused j n

-- of two outlines and 24 numbers that are not refused: the room, if one is told, and the cells
pub record Roomed (a b numbers : List Float) (j : ℕ) (p : Proved) : Type 0 where
  pub job : p.job ≡ j
  pub passed : refusal_of a b numbers (of_bits binary32 0) ≡ 0
  pub letters : length p.cells ≡ 64
  pub room : IfSome p.room (λ room. Keeps a b numbers room)
  pub cells : CellsTo a b numbers (point numbers 1).x p.cells 64

-- of any: that, or the number of the refusal
abbrev pub Numbered : List Float → List Float → List Float → ℕ → BlockRooms → Type 0
Numbered a b numbers j (Ok p) = Roomed a b numbers j p
Numbered a b numbers j (Err e) = (e.job ≡ j) × (e.number ≡ refusal_of a b numbers (of_bits binary32 0)) × (0 < e.number)

abbrev pub Told : List ℕ → Block → BlockRooms → Type 0
Told b k r = Numbered (points_a b k) (points_b b k) (numbers_of b) k.job r

abbrev pub AnswerBy : List ℕ → Result Block BlockRefusal → BlockRooms → Type 0
AnswerBy b (Ok k) r = Told b k r
AnswerBy b (Err e) r = RefusedBy e.job e.number r

-- by whether it has all its bytes
abbrev pub AnswerIf : Bool → List ℕ → BlockRooms → Type 0
AnswerIf true b r = AnswerBy b (checked_block b) r
AnswerIf false b r = RefusedBy 0 9 r

unfoldable pub AnswerOf : List ℕ → BlockRooms → Type 0
AnswerOf b r = AnswerIf (eqb (length b) block_size) b r

-- one answer for each block, in order
unfoldable pub AnswersOf : List (List ℕ) → List BlockRooms → Type 0
AnswersOf [] [] = Unit {0}
AnswersOf [] (r ∷ later) = ⊥
AnswersOf (b ∷ bs) [] = ⊥
AnswersOf (b ∷ bs) (r ∷ later) = AnswerOf b r × AnswersOf bs later
