-- Moves that are not clear. The square cart of job 2113 of examples/shift.txt turns a quarter beside a wall that is 1 away. Half way one of its corners is 7.07 from the turning
-- centre, behind the wall's side at 6: such a move is not clear, though it is so at both ends. Assumes nothing.
use mathlib.Core.Path.{◌≡◌, refl}
use mathlib.Core.Bool.{cond, ◌||◌}
use mathlib.Core.List.{List, [], ◌∷◌, map}
use Prim.Native.Nat.{ℕ, ◌+◌, ◌*◌, ◌^◌, ◌<◌}
use native.Mathlib.Nat.{lt_irrefl, lt_of_lt_of_le}
use lib.Dec.{T, eqb, leb, leb→le}
use lib.Ieee.{Float, binary32, of_bits, to_bits}
use lib.ListN.{length, get_or}
use Rattle.integers.specs.Signed.{of_nat, ◌⊠◌, ◌≃◌}
use Rattle.whole_move.specs.Piece.{Moment}
use Rattle.whole_way.specs.Mover.{TurnAt}
use Rattle.grid.specs.Units.{size}
use Rattle.grid.specs.Grid.{unit}
use Rattle.planned.specs.Planned.{body_a, body_b, Clear}

-- 5 and -5; 0, 4, 20 and -20
abbrev square : List Float
square = map (of_bits binary32) (3231711232 ∷ 3231711232 ∷ 1084227584 ∷ 3231711232 ∷ 1084227584 ∷ 1084227584 ∷ 3231711232 ∷ 1084227584 ∷ [])

abbrev wall : List Float
wall = map (of_bits binary32) (0 ∷ 3248488448 ∷ 1082130432 ∷ 3248488448 ∷ 1082130432 ∷ 1101004800 ∷ 0 ∷ 1101004800 ∷ [])

-- no radii, all of the way, a slop of 0.005; the cart turns from (1, 0) to (0, 1) where it stands; the wall stands at 6
abbrev numbers : List Float
numbers = map (of_bits binary32)
    (0 ∷ 0 ∷ 1065353216 ∷ 1000593162 ∷ 0 ∷ 0 ∷ 0 ∷ 0 ∷ 0 ∷ 0 ∷ 1065353216 ∷ 0 ∷ 0 ∷ 1065353216 ∷ 0 ∷ 0 ∷ 1086324736 ∷ 0 ∷ 1086324736 ∷ 0 ∷ 1065353216 ∷ 0 ∷
    1065353216 ∷ 0 ∷ [])

abbrev half : Moment
half = record { u = 1; w = 1; some = leb→le 1 2 tt }

-- 33461 / 47321 is the root of a half, but for less than the window
turn_a : TurnAt half 1073741824 (body_a square wall numbers)
unfolding of_bits to_bits size ◌⊠◌
turn_a = record { over = 33461; under = 47321 * 2 ^ 149; some = leb→le 1 (47321 * 2 ^ 149) tt; long-enough = leb→le _ _ tt; short-enough = leb→le _ _ tt }

turn_b : TurnAt half 1073741824 (body_b square wall numbers)
unfolding of_bits to_bits size ◌⊠◌
turn_b = record { over = 1; under = 2 ^ 150; some = leb→le 1 (2 ^ 150) tt; long-enough = leb→le _ _ tt; short-enough = leb→le _ _ tt }

refute : (m n : ℕ) → T (leb n m) → m < n → ⊥
refute m n h l = lt_irrefl m (lt_of_lt_of_le l (leb→le n m h))

-- the corner (5, -5), which stands at (7.07, 0) then, and the wall's point there
pub not-clear : Clear square wall numbers (of_bits binary32 0) → ⊥
unfolding of_bits to_bits size unit ◌⊠◌ turn_a turn_b
not-clear clear = refute _ _ tt (clear half (leb→le _ _ tt) (leb→le _ _ tt) turn_a turn_b
    (record { weight = λ i. cond (eqb i 1) 1 0; some = leb→le 1 1 tt })
    (record { weight = λ j. cond (eqb j 0 || eqb j 3) 732233 267767; some = leb→le 1 2000000 tt }))

-- ---- A point that goes from 0 to 400 past a point at 1 / 2: at each of 401 sampled fractions it stands on a whole number, at least 1 / 2 away; but at
-- 1 / 800 of the way they meet.
abbrev dot1 : List Float
dot1 = map (of_bits binary32) (0 ∷ 0 ∷ [])

abbrev passing : List Float
passing = map (of_bits binary32)
    (0 ∷ 0 ∷ 1065353216 ∷ 1000593162 ∷ 0 ∷ 0 ∷ 0 ∷ 0 ∷ 1137180672 ∷ 0 ∷ 1065353216 ∷ 0 ∷ 1065353216 ∷ 0 ∷ 0 ∷ 0 ∷ 1056964608 ∷ 0 ∷ 1056964608 ∷ 0 ∷
    1065353216 ∷ 0 ∷ 1065353216 ∷ 0 ∷ [])

abbrev early : Moment
early = record { u = 799; w = 1; some = leb→le 1 800 tt }

still-a : TurnAt early 1073741824 (body_a dot1 dot1 passing)
unfolding of_bits to_bits size ◌⊠◌
still-a = record { over = 1; under = 800 * 2 ^ 149; some = leb→le 1 (800 * 2 ^ 149) tt; long-enough = leb→le _ _ tt; short-enough = leb→le _ _ tt }

still-b : TurnAt early 1073741824 (body_b dot1 dot1 passing)
unfolding of_bits to_bits size ◌⊠◌
still-b = record { over = 1; under = 800 * 2 ^ 149; some = leb→le 1 (800 * 2 ^ 149) tt; long-enough = leb→le _ _ tt; short-enough = leb→le _ _ tt }

pub not-clear-between-samples : Clear dot1 dot1 passing (of_bits binary32 0) → ⊥
unfolding of_bits to_bits size unit ◌⊠◌ still-a still-b
not-clear-between-samples clear = refute _ _ tt (clear early (leb→le _ _ tt) (leb→le _ _ tt) still-a still-b (record {
  weight = λ i. 1;
  some = leb→le 1 1
      tt;
}) (record { weight = λ j. 1; some = leb→le 1 1 tt }))
