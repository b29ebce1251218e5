-- How far the squared length of a turn is off, over a piece.
use Rattle.std.specs.Prelude.{ℕ, ◌+◌, ◌*◌, ◌≤◌, ◌<◌}
use Rattle.integers.specs.Signed.{Int, of_nat, ◌⊞◌, ◌⊟◌, ◌⊠◌, ◌≃◌}
use Rattle.integers.specs.Whole.{Within}
use Rattle.plane.specs.Plane.{Point, dot}
use Rattle.whole_move.specs.Piece.{Controls, LongAtLeast, LongAtMost}
use Rattle.board.specs.declared.Pair.{Pair}
use Rattle.board.specs.Pairs.{int_of, point_of}
use Rattle.board.specs.declared.Arc.{Arc}
use Rattle.standing.specs.Form.{doubled}

-- z is within y units of mid, unless y says that nothing is known
pub record Off (mid unit : ℕ) (z : Int) (y : ℕ) : Type 0 where
  pub upper : y < 1073741824 → z.plus ≤ z.minus + mid + unit * y
  pub lower : y < 1073741824 → z.minus + mid ≤ z.plus + unit * y

-- at a finer unit, before division
pub record Gap (mid : ℕ) (z : Int) (g : ℕ) : Type 0 where
  pub upper : g < 9223372036854775808 → z.plus ≤ z.minus + mid + g
  pub lower : g < 9223372036854775808 → z.minus + mid ≤ z.plus + g

-- the turn of the body in 2^31-ths
abbrev pub turn_of : Arc → Controls
turn_of a = record { p0 = doubled (point_of a.p0); p1 = point_of a.t; p2 = doubled (point_of a.p2) }

-- its squared length is within 2^32 y of 2^62 at every moment
pub record Steady (a : Arc) (y : ℕ) : Type 0 where
  pub long : LongAtLeast (of_nat 2147483648 ⊠ of_nat 2147483648 ⊟ of_nat (4294967296 * y)) (turn_of a)
  pub short : LongAtMost (of_nat 2147483648 ⊠ of_nat 2147483648 ⊞ of_nat (4294967296 * y)) (turn_of a)

pub record Largest (a b r : ℕ) : Type 0 where
  pub left : a ≤ r
  pub right : b ≤ r
