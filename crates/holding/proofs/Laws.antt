-- From what the code of a piece's check finds of a turn to what a touch asks of it. Assumes nothing.
use mathlib.Core.Logic.{◌⊎◌, inl, inr}
use mathlib.Core.Path.{◌≡◌}
use mathlib.Core.List.{List, [], ◌∷◌}
use Prim.Native.Nat.{ℕ, ◌+◌, ◌*◌, ◌≤◌, ◌<◌}
use native.Mathlib.Nat.{mul-le-mul_left}
use native.Mathlib.Omega.{arith}
use lib.ListN.{length}
use Rattle.integers.specs.Signed.{Int, of_nat, ◌⊞◌, ◌⊟◌, ◌⊠◌, ◌≼◌, ◌≃◌}
use Rattle.integers.specs.Polynomial.{var, ◌:+◌, ◌:*◌}
use Rattle.integers.proofs.Ring.{ring}
use Rattle.plane.specs.Plane.{Point, dot}
use Rattle.board.specs.declared.Vector.{Vector}
use Rattle.board.specs.Pairs.{point_of, Sized}
use Rattle.board.specs.declared.GridBody.{GridBody}
use Rattle.board.specs.declared.GridJob.{GridJob}
use Rattle.board.specs.declared.Arc.{Arc}
use Rattle.standing.specs.Form.{doubled}
use Rattle.standing.specs.Window as Turn
use Rattle.standing.specs.Seen.{ArcAt, Blurred, Reach, Turning, Still, Seen}
use Rattle.board.specs.declared.Hold.{Hold}
use Rattle.board.specs.declared.Grip.{Grip}
use Rattle.holding.specs.Grip.{Names, Weighted, TurnedDown, Blur, Steady, Held, HeldAt, Decided, Gripped}

square-is : of_nat 2147483648 ⊠ of_nat 2147483648 ≃ of_nat 4611686018427387904
unfolding ◌⊠◌
square-is = omega arith

four-times : (P : Point) → let N = dot P P in dot (doubled P) (doubled P) ≃ N ⊞ N ⊞ (N ⊞ N)
four-times P = let N = var 0 :* var 0 :+ var 1 :* var 1 in ring ((var 0 :+ var 0) :* (var 0 :+ var 0) :+ (var 1 :+ var 1) :* (var 1 :+ var 1)) (N :+ N :+
    (N :+ N)) (P.x ∷ P.y ∷ []) tt

spread-fits : (l r s : ℕ) → 0 < l → Blur l r → l + 33554432 ≤ 33554432 * s → 4 * (r * (1207959552 + r)) ≤ 1073741824 * (10 * s)
spread-fits l r s some h k = omega (arith, h.most, h.few, mul-le-mul_left r h.few)

steady_by : (a : Arc) (l y s r : ℕ) → 0 < l → Turn.Steady a y → y < 134216000 → Blurred l l s → Blur l r → Steady (point_of a.p0) r (y + 10 * s)
steady_by a l y s r some h tame b k =
    let P = point_of a.p0 in
    let spread = spread-fits l r s some k b.first in
    record {
      tame = omega (arith, b.few);
      long = omega (arith, h.long.c0, square-is, four-times P, spread);
      short = omega (arith, h.short.c0, square-is, four-times P, spread);
    }

reach-by : (R z E : ℕ) → Reach R z E → 5 * (R * (z + 1)) ≤ 8589934592 * E
unfolding ◌⊠◌
reach-by R z E h = omega (arith, h.enough)

pub held_by : (o : GridBody) (xs ys : List ℕ) (k l i0 i1 i2 w0 w1 w2 r E : ℕ) (arc : Arc) (point place : Vector) → 0 < l → ArcAt o l l k k arc → Seen arc l
    l o.reach E → Blur l r
    → Weighted xs ys i0 i1 i2 w0 w1 w2 point → TurnedDown arc.p0 point place → Held o xs ys k l i0 i1 i2 w0 w1 w2 r E arc.p0 point place
held_by o xs ys k l i0 i1 i2 w0 w1 w2 r E arc point place some at seen blur weighted placed = go seen.kind
  where
    go : Turning arc l l o.reach E ⊎ Still l l o.reach E → Held o xs ys k l i0 i1 i2 w0 w1 w2 r E arc.p0 point place
    go (inl t) = record {
      some = some;
      blur = blur;
      heading = at.start;
      mid = at.at-start;
      stretched = at.is.p0;
      small = seen.arc.p0;
      z = t.y + 10 * t.r;
      steady = steady_by arc l t.y t.r r some t.steady t.tame t.blurred blur;
      reach = reach-by (o.reach + 3) (t.y + 10 * t.r) E t.reach;
      point = weighted;
      placed = placed;
    }
    go (inr t) = absurd (clash t.none0)
      where
        clash : l ≡ 0 → ⊥
        clash e = omega arith

pub gripped-by : (job : GridJob) (k : ℕ) (g : Grip) (axs ays bxs bys : List ℕ) (a b : Hold) → k ≤ 16777216 → Names g (length axs) (length bxs)
    → HeldAt job.a axs ays k g.la g.i0 g.i1 g.i2 g.w0 g.w1 g.w2 a → HeldAt job.b bxs bys k g.lb g.j0 g.j1 g.j2
    g.w0 g.w1 g.w2 b
    → Decided job k a b → Gripped job k g axs ays bxs bys
gripped-by job k g axs ays bxs bys a b early names ha hb d = record {
  early = early;
  names = names;
  ra = a.blur;
  rb = b.blur;
  ea = a.margin;
  eb = b.margin;
  turn_a = ha.turn;
  turn_b = hb.turn;
  point_a = ha.point;
  point_b = hb.point;
  place_a = a.place;
  place_b = b.place;
  held_a = ha.held;
  held_b = hb.held;
  centre = d.centre;
  mid = d.mid;
  way = d.way;
  way-x = d.way-x;
  way-y = d.way-y;
  room = d.room;
  reached = d.reached;
  enough = d.enough;
}
