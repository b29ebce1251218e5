-- One part of a heading, a turn, a centre, a corner: how far the grid's number is off the planned one. Assumes nothing.
use mathlib.Core.Path.{◌≡◌, sym, ap, ◌∙◌}
use mathlib.Core.List.{[], ◌∷◌}
use Prim.Native.Nat.{ℕ, ◌+◌, ◌-◌, ◌*◌, ◌≤◌}
use native.Mathlib.Nat.{add-mul, mul-le-mul_left}
use native.Mathlib.Omega.{arith}
use Rattle.integers.specs.Signed.{Int, of_nat, ◌⊞◌, ◌⊟◌, ◌⊠◌, ◌≃◌}
use Rattle.integers.specs.Whole.{Within}
use Rattle.integers.specs.Polynomial.{var, lit, ◌:+◌, ◌:-◌, ◌:*◌}
use Rattle.integers.proofs.Ring.{ring}
use Rattle.integers.proofs.Sized.{within-product}
use Rattle.whole_move.specs.Blend.{twice, line}
use Rattle.board.specs.declared.Pair.{Pair}
use Rattle.board.specs.Pairs.{int_of}
use Rattle.standing.specs.Cut.{Cut, Mid}

natural-within : (n : ℕ) → Within n (of_nat n)
natural-within n = record { upper = omega arith; lower = omega arith }

-- what a cut leaves
cut-within : (F : ℕ) (z : Int) (r : Pair) → Cut F z r → Within F (z ⊟ of_nat F ⊠ int_of r)
unfolding ◌⊠◌
cut-within F z r h = record { upper = omega (arith, h.upper); lower = omega (arith, h.lower) }

both-shares : (k e : ℕ) → k ≤ 16777216 → (16777216 - k) * e + k * e ≡ 16777216 * e
both-shares k e h =
    let whole : 16777216 - k + k ≡ 16777216 = omega arith in
    sym (add-mul (16777216 - k) k e) ∙ ap (λ (x : ℕ). x * e) whole

module _ (U : ℕ) where
  -- k / 2^24 of the way between two numbers that are each within e
  pub mid-near : (m : Int) (e k : ℕ) → k ≤ 16777216 → (Q1 Q2 : Int) (q1 q2 r : Pair)
      → Within e (m ⊠ Q1 ⊟ of_nat U ⊠ int_of q1) → Within e (m ⊠ Q2 ⊟ of_nat U ⊠ int_of q2) → Mid k q1 q2 r
      → Within (16777216 * e + U * 16777216) (m ⊠ line (of_nat (16777216 - k)) (of_nat k) Q1 Q2 ⊟ of_nat 16777216 ⊠ (of_nat U ⊠ int_of r))
  mid-near m e k h Q1 Q2 q1 q2 r h1 h2 mid =
      let j = 16777216 - k in
      let d1 = m ⊠ Q1 ⊟ of_nat U ⊠ int_of q1 in
      let d2 = m ⊠ Q2 ⊟ of_nat U ⊠ int_of q2 in
      let z = of_nat j ⊠ int_of q1 ⊞ of_nat k ⊠ int_of q2 in
      let d3 = z ⊟ of_nat 16777216 ⊠ int_of r in
      let a = within-product j e (of_nat j) d1 (natural-within j) h1 in
      let b = within-product k e (of_nat k) d2 (natural-within k) h2 in
      let c = within-product U 16777216 (of_nat U) d3 (natural-within U) (cut-within 16777216 z r mid.cut) in
      let same = ring (var 0 :* (var 1 :* var 3 :+ var 2 :* var 4) :- lit (of_nat 16777216) :* (var 5 :* var 8))
      (var 1 :* (var 0 :* var 3 :- var 5 :* var 6) :+ var 2 :* (var 0 :* var 4 :- var 5 :* var 7) :+ var 5 :* (var 1 :* var 6 :+ var 2 :* var 7 :- lit
      (of_nat 16777216) :* var 8))
      (m ∷ of_nat j ∷ of_nat k ∷ Q1 ∷ Q2 ∷ of_nat U ∷ int_of q1 ∷ int_of q2 ∷ int_of r ∷ []) tt in
      record {
        upper = omega (arith, a.upper, b.upper, c.upper, same, both-shares k e h);
        lower = omega (arith, a.lower, b.lower, c.lower, same, both-shares k e h);
      }

  big-unit : (x : Int) → of_nat (16777216 * U) ⊠ x ≃ of_nat 16777216 ⊠ of_nat U ⊠ x
  unfolding ◌⊠◌
  big-unit x = omega arith

  one_unit : (T : Int) → of_nat (1048576 * U) ⊠ T ≃ of_nat 1048576 ⊠ (of_nat U ⊠ T)
  unfolding ◌⊠◌
  one_unit T = omega arith

  at-end : (s Y P : Int) → twice s ⊠ Y ⊟ of_nat (1048576 * U) ⊠ (P ⊞ P) ≃ s ⊠ Y ⊞ of_nat 0 ⊠ Y ⊞ (s ⊠ Y ⊞ of_nat 0 ⊠ Y) ⊟ of_nat 1048576 ⊠ (of_nat U ⊠ P ⊞ of_nat
      U ⊠ P)
  unfolding ◌⊠◌
  at-end s Y P = omega arith

  -- a control point of a turn, from headings that are each within 2 of a grid's step
  stretched-near : (s t : ℕ) (Y0 Y1 : Int) (L0 L1 T : Pair)
      → Within (33554432 * U) (of_nat 1073741824 ⊠ Y0 ⊟ of_nat 16777216 ⊠ (of_nat U ⊠ int_of L0)) → Within (33554432 * U) (of_nat 1073741824 ⊠ Y1 ⊟ of_nat
      16777216 ⊠ (of_nat U ⊠ int_of L1))
      → Cut 67108864 (of_nat s ⊠ int_of L0 ⊞ of_nat t ⊠ int_of L1) T
      → Within (s * (33554432 * U) + t * (33554432 * U) + 16777216 * U * 67108864) (of_nat 1073741824 ⊠ (of_nat s ⊠ Y0 ⊞ of_nat t ⊠ Y1) ⊟ of_nat
      1125899906842624 ⊠ (of_nat U ⊠ int_of T))
  stretched-near s t Y0 Y1 L0 L1 T h0 h1 cut =
      let d0 = of_nat 1073741824 ⊠ Y0 ⊟ of_nat 16777216 ⊠ (of_nat U ⊠ int_of L0) in
      let d1 = of_nat 1073741824 ⊠ Y1 ⊟ of_nat 16777216 ⊠ (of_nat U ⊠ int_of L1) in
      let z = of_nat s ⊠ int_of L0 ⊞ of_nat t ⊠ int_of L1 in
      let a = within-product s (33554432 * U) (of_nat s) d0 (natural-within s) h0 in
      let b = within-product t (33554432 * U) (of_nat t) d1 (natural-within t) h1 in
      let c = within-product (16777216 * U) 67108864 (of_nat (16777216 * U)) (z ⊟ of_nat 67108864 ⊠ int_of T) (natural-within (16777216 * U)) (cut-within
      67108864 z T cut) in
      let same = ring (lit (of_nat 1073741824) :* (var 0 :* var 2 :+ var 1 :* var 3) :- lit (of_nat 1125899906842624) :* (var 4 :* var 7))
      (var 0 :* (lit (of_nat 1073741824) :* var 2 :- lit (of_nat 16777216) :* (var 4 :* var 5)) :+ var 1 :* (lit (of_nat 1073741824) :* var 3 :- lit (of_nat
      16777216) :* (var 4 :* var 6))
      :+ lit (of_nat 16777216) :* var 4 :* (var 0 :* var 5 :+ var 1 :* var 6 :- lit (of_nat 67108864) :* var 7))
      (of_nat s ∷ of_nat t ∷ Y0 ∷ Y1 ∷ of_nat U ∷ int_of L0 ∷ int_of L1 ∷ int_of T ∷ []) tt in
      let big = big-unit (z ⊟ of_nat 67108864 ⊠ int_of T) in
      record { upper = omega (arith, a.upper, b.upper, c.upper, same, big); lower = omega (arith, a.lower, b.lower, c.lower, same, big) }

  -- in the turn's own units: 2^20 U of the planned turn are one of the grid's
  twice-divided : (r s : ℕ) (X W : Int) → s + 33554432 ≤ 33554432 * r
      → Within (s * (33554432 * U) + 0 * (33554432 * U) + 16777216 * U * 67108864) (of_nat 1073741824 ⊠ X ⊟ of_nat 1125899906842624 ⊠ W)
      → Within (2097152 * (U * r)) (X ⊞ X ⊟ of_nat 1048576 ⊠ (W ⊞ W))
  unfolding ◌⊠◌
  twice-divided r s X W room h =
      let l = mul-le-mul_left U room in
      record { upper = omega (arith, l, h.upper); lower = omega (arith, l, h.lower) }

  divided : (r s t : ℕ) (X W : Int) → s + 33554432 ≤ 33554432 * r → t + 33554432 ≤ 33554432 * r
      → Within (s * (33554432 * U) + t * (33554432 * U) + 16777216 * U * 67108864) (of_nat 1073741824 ⊠ X ⊟ of_nat 1125899906842624 ⊠ W)
      → Within (2097152 * (U * r)) (X ⊟ of_nat 1048576 ⊠ W)
  unfolding ◌⊠◌
  divided r s t X W room room' h =
      let l = mul-le-mul_left U room in
      let l' = mul-le-mul_left U room' in
      record { upper = omega (arith, l, l', h.upper); lower = omega (arith, l, l', h.lower) }

  -- at an end: the control point is twice the lengthened heading
  pub end-near : (r s : ℕ) (Y : Int) (L P : Pair) → s + 33554432 ≤ 33554432 * r
      → Within (33554432 * U) (of_nat 1073741824 ⊠ Y ⊟ of_nat 16777216 ⊠ (of_nat U ⊠ int_of L)) → Cut 67108864 (of_nat s ⊠ int_of L ⊞ of_nat 0 ⊠ int_of L) P
      → Within (2097152 * (U * r)) (twice (of_nat s) ⊠ Y ⊟ of_nat (1048576 * U) ⊠ (int_of P ⊞ int_of P))
  end-near r s Y L P room h cut =
      let X = of_nat s ⊠ Y ⊞ of_nat 0 ⊠ Y in
      let n = twice-divided r s X (of_nat U ⊠ int_of P) room (stretched-near s 0 Y Y L L P h h cut) in
      let e = at-end (of_nat s) Y (int_of P) in
      record { upper = omega (arith, n.upper, e); lower = omega (arith, n.lower, e) }

  -- between the ends
  pub middle-near : (r s t : ℕ) (Y0 Y1 : Int) (L0 L1 T : Pair) → s + 33554432 ≤ 33554432 * r → t + 33554432 ≤ 33554432 * r
      → Within (33554432 * U) (of_nat 1073741824 ⊠ Y0 ⊟ of_nat 16777216 ⊠ (of_nat U ⊠ int_of L0)) → Within (33554432 * U) (of_nat 1073741824 ⊠ Y1 ⊟ of_nat
      16777216 ⊠ (of_nat U ⊠ int_of L1))
      → Cut 67108864 (of_nat s ⊠ int_of L0 ⊞ of_nat t ⊠ int_of L1) T
      → Within (2097152 * (U * r)) (of_nat s ⊠ Y0 ⊞ of_nat t ⊠ Y1 ⊟ of_nat (1048576 * U) ⊠ int_of T)
  middle-near r s t Y0 Y1 L0 L1 T room room' h h' cut =
      let n = divided r s t (of_nat s ⊠ Y0 ⊞ of_nat t ⊠ Y1) (of_nat U ⊠ int_of T) room room' (stretched-near s t Y0 Y1 L0 L1 T h h' cut) in
      let e = one_unit (int_of T) in
      record { upper = omega (arith, n.upper, e); lower = omega (arith, n.lower, e) }
