-- What is told of a move beyond its verdict: a room that it keeps throughout, and a letter for each 64th of it. Promises, as the verdict is one: which of two
-- sound answers comes is the search's.
use Rattle.std.specs.Prelude.{◌≡◌, ℕ, ◌+◌, ◌*◌, ◌<◌, Bool, true, false, cond, List, ltb, Float, set, get_or}
use Rattle.std.specs.Float.{binary32}
use Rattle.std.specs.Float.Ieee.{of_bits, mul, le}
use Rattle.plane.specs.Fraction.{◌≤ᶠ◌}
use Rattle.whole_way.specs.Mover.{share}
use Rattle.planned.specs.Planned as planned
use Rattle.places.specs.Place.{place_bits}
use Rattle.clearance_call.specs.declared.Cleared.{Cleared}
use Rattle.clearance_call.specs.declared.Cleared.TheVariants as cleared
use Rattle.clearance_call.specs.Call.{refusal_of}

abbrev start : Float
start = of_bits binary32 0

abbrev pub is_clear : Cleared → Bool
is_clear (cleared.Refused number) = false
is_clear (cleared.Clear pieces) = true
is_clear (cleared.Touch u t pieces) = false
is_clear (cleared.Open u pieces) = false

-- ---- where the cells start and end: k / 64 of the max fraction, as an f32 product
abbrev pub edge : Float → ℕ → Float
edge end k = mul binary32 end (of_bits binary32 (place_bits (262144 * k)))

-- ---- letters: 67 is C, 84 is T, 79 is O
-- a contact at a place on the way counts where the next place, in 2^24-ths, is not before the cell
abbrev pub touch_letter : Float → ℕ → ℕ
touch_letter from place = cond (ltb 16777216 place) 79 (cond (le from (of_bits binary32 (place_bits (place + 1)))) 84 79)

abbrev pub letter_by : Float → Cleared → ℕ
letter_by from (cleared.Refused number) = 79
letter_by from (cleared.Clear pieces) = 67
letter_by from (cleared.Touch u t pieces) = touch_letter from t
letter_by from (cleared.Open u pieces) = 79

-- ---- of two outlines and 24 numbers
module _ (points_a points_b numbers : List Float) where
  -- with the slop replaced by the room nothing is refused, and the whole move is clear: at every fraction the outlines are farther apart than that
  pub record Keeps (room : Float) : Type 0 where
    pub passed : refusal_of points_a points_b (set numbers 3 room) start ≡ 0
    pub clear : planned.Clear points_a points_b (set numbers 3 room) start

  -- some place of the way, not after `to` and less than a 2^24-th before `from` at most, at which the outlines are no farther apart than the distance to keep
  pub record Contact (from to : Float) : Type 0 where
    pub place : ℕ
    pub after : le from (of_bits binary32 (place_bits (place + 1))) ≡ true
    pub before : share 16777216 place ≤ᶠ planned.end points_a points_b (set numbers 2 to)
    pub touching : planned.Touching points_a points_b (set numbers 2 to) (planned.moment_at place)

  -- what a cell's letter says of the part of the move from one fraction to another
  pub data Cell (from to : Float) (letter : ℕ) : Type 0 where
    clear : letter ≡ 67 → planned.Clear points_a points_b (set numbers 2 to) from → Cell from to letter
    contact : letter ≡ 84 → Contact from to → Cell from to letter
    unsettled : letter ≡ 79 → Cell from to letter

  -- the first n letters, with that max fraction
  abbrev pub CellsTo : (end : Float) (letters : List ℕ) (n : ℕ) → Type 0
  CellsTo end letters n = (k : ℕ) → k < n → Cell (edge end k) (edge end (k + 1)) (get_or letters k 0)
