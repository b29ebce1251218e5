-- From the five dot products of an arc to the length of the turn in 2^31-ths. Assumes nothing.
use Prim.Native.Nat.{ℕ, ◌≤◌, ◌<◌}
use native.Mathlib.Omega.{arith}
use Rattle.integers.specs.Signed.{of_nat, ◌⊞◌, ◌⊠◌, ◌≃◌}
use Rattle.plane.specs.Plane.{Point, dot}
use Rattle.whole_move.specs.Blend.{twice}
use Rattle.board.specs.Pairs.{point_of}
use Rattle.board.specs.declared.Arc.{Arc}
use Rattle.standing.specs.Form.{doubled}
use Rattle.standing.specs.Window.{Off, Steady}

square : of_nat 2147483648 ⊠ of_nat 2147483648 ≃ of_nat 4611686018427387904
unfolding ◌⊠◌
square = omega arith

four-times : (p q : Point) → dot (doubled p) (doubled q) ≃ twice (twice (dot p q))
unfolding ◌⊠◌
four-times p q = omega arith

twice-left : (p t : Point) → dot (doubled p) t ≃ twice (dot p t)
unfolding ◌⊠◌
twice-left p t = omega arith

twice-right : (p t : Point) → dot t (doubled p) ≃ twice (dot p t)
unfolding ◌⊠◌
twice-right p t = omega arith

module _ (a : Arc) (y0 y1 y2 y3 y4 y : ℕ) where
  abbrev P : Point
  P = point_of a.p0

  abbrev T : Point
  T = point_of a.t

  abbrev Q : Point
  Q = point_of a.p2

  pub steady-law : Off 1152921504606846976 1073741824 (dot P P) y0 → Off 2305843009213693952 2147483648 (dot P T) y1
      → Off 6917529027641081856 6442450944 (dot T T ⊞ (dot P Q ⊞ dot P Q)) y2 → Off 2305843009213693952 2147483648 (dot Q T) y3
      → Off 1152921504606846976 1073741824 (dot Q Q) y4 → y0 ≤ y → y1 ≤ y → y2 ≤ y → y3 ≤ y → y4 ≤ y → y < 1073741824 → Steady a y
  steady-law o0 o1 o2 o3 o4 l0 l1 l2 l3 l4 l = record {
    long = record {
      c0 = omega (arith, o0.lower (omega arith), square, four-times P P);
      c1 = omega (arith, o1.lower (omega arith), square, twice-left P T);
      c2 = omega (arith, o2.lower (omega arith), square, four-times P Q);
      c3 = omega (arith, o3.lower (omega arith), square, twice-right Q T);
      c4 = omega (arith, o4.lower (omega arith), square, four-times Q Q);
    };
    short = record {
      c0 = omega (arith, o0.upper (omega arith), square, four-times P P);
      c1 = omega (arith, o1.upper (omega arith), square, twice-left P T);
      c2 = omega (arith, o2.upper (omega arith), square, four-times P Q);
      c3 = omega (arith, o3.upper (omega arith), square, twice-right Q T);
      c4 = omega (arith, o4.upper (omega arith), square, four-times Q Q);
    };
  }
