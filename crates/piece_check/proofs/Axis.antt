-- An axis by its squared length. Assumes nothing.
use Prim.Native.Nat.{◌+◌, ◌≤◌}
use native.Mathlib.Omega.{arith}
use Rattle.integers.specs.Signed.{of_nat, ◌⊠◌, ◌≼◌, ◌≃◌}
use Rattle.plane.specs.Plane.{dot}
use Rattle.board.specs.declared.Vector.{Vector}
use Rattle.board.specs.declared.Pair.{Pair}
use Rattle.board.specs.Pairs.{int_of, point_of}

axis-square : of_nat 268435456 ⊠ of_nat 268435456 ≃ of_nat 72057594037927936
unfolding ◌⊠◌
axis-square = omega arith

pub axis-law : (n : Vector) (d : Pair) → int_of d ≃ dot (point_of n) (point_of n) → d.p ≤ d.m + 72057594037927936
    → dot (point_of n) (point_of n) ≼ of_nat 268435456 ⊠ of_nat 268435456
axis-law n d h l = omega (arith, axis-square)
