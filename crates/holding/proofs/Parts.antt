-- One part of a turn, of a centre and of a weighted point, rounded: how far it is off. H is the moment's whole, 2^24; W the weights' total, 2^28. Assumes nothing.
use mathlib.Core.Path.{◌≡◌, ap}
use mathlib.Core.List.{[], ◌∷◌}
use Prim.Native.Nat.{ℕ, ◌+◌, ◌*◌, ◌≤◌}
use native.Mathlib.Nat.{mul-le-mul_left}
use native.Mathlib.Omega.{arith}
use Rattle.integers.specs.Signed.{Int, 0Int, of_nat, ◌⊞◌, ◌⊟◌, ◌⊠◌, ◌≼◌, ◌≃◌}
use Rattle.integers.specs.Whole.{Within}
use Rattle.integers.specs.Polynomial.{var, lit, ◌:+◌, ◌:-◌, ◌:*◌}
use Rattle.integers.proofs.Signed.{⊠-cong}
use Rattle.integers.proofs.Sized.{within-product}
use Rattle.integers.proofs.Ring.{ring}
use Rattle.board.specs.declared.Pair.{Pair}
use Rattle.board.specs.Pairs.{int_of}
use Rattle.standing.specs.Cut.{Cut}

pub itself : (n : ℕ) → Within n (of_nat n)
itself n = record { upper = omega arith; lower = omega arith }

pub nat-product : (a b : ℕ) → of_nat (a * b) ≃ of_nat a ⊠ of_nat b
unfolding ◌⊠◌
nat-product a b = omega arith

pub cut-within : (F : ℕ) (z : Int) (r : Pair) → Cut F z r → Within F (z ⊟ of_nat F ⊠ int_of r)
unfolding ◌⊠◌
cut-within F z r h = record { upper = omega (arith, h.upper, h.lower); lower = omega (arith, h.upper, h.lower) }

-- s times the heading, of which T times each end is within `unit` of unit q; s is T l, and U is unit H 2^26
pub turn-part : (T u w l unit H r : ℕ) (h1 h2 q1 q2 L P : Int) → u + w ≡ H → Within unit (of_nat T ⊠ h1 ⊟ of_nat unit ⊠ q1) → Within unit (of_nat T ⊠ h2 ⊟
    of_nat unit ⊠ q2)
    → Within H (of_nat u ⊠ q1 ⊞ of_nat w ⊠ q2 ⊟ of_nat H ⊠ L) → Within 67108864 (of_nat l ⊠ L ⊟ of_nat 67108864 ⊠ P) → l + 33554432 ≤ 33554432 * r
    → Within (unit * (H * 67108864) * r) (of_nat (T * l) ⊠ (of_nat u ⊠ h1 ⊞ of_nat w ⊠ h2) ⊟ of_nat (unit * (H * 67108864)) ⊠ P)
turn-part T u w l unit H r h1 h2 q1 q2 L P whole c1 c2 c3 c4 blur =
    let t = of_nat T in
    let U = of_nat u in
    let W = of_nat w in
    let n = of_nat unit in
    let h = of_nat H in
    let k = of_nat l in
    let c = of_nat 67108864 in
    let d1 = t ⊠ h1 ⊟ n ⊠ q1 in
    let d2 = t ⊠ h2 ⊟ n ⊠ q2 in
    let d3 = U ⊠ q1 ⊞ W ⊠ q2 ⊟ h ⊠ L in
    let d4 = k ⊠ L ⊟ c ⊠ P in
    let x1 = within-product u unit U d1 (itself u) c1 in
    let x2 = within-product w unit W d2 (itself w) c2 in
    let x12 : Within (u * unit + w * unit) (U ⊠ d1 ⊞ W ⊠ d2) = record {
      upper = omega (arith, x1.upper, x2.upper);
      lower = omega (
        arith,
        x1.lower,
        x2.lower,
      );
    } in
    let y1 = within-product l (u * unit + w * unit) k (U ⊠ d1 ⊞ W ⊠ d2) (itself l) x12 in
    let y2 = within-product l (unit * H) k (n ⊠ d3) (itself l) (within-product unit H n d3 (itself unit) c3) in
    let y3 = within-product unit (H * 67108864) n (h ⊠ d4) (itself unit) (within-product H 67108864 h d4 (itself H) c4) in
    let same = ring (var 0 :* var 1 :* (var 2 :* var 3 :+ var 4 :* var 5) :- var 6 :* (var 7 :* var 8) :* var 9)
    (var 1 :* (var 2 :* (var 0 :* var 3 :- var 6 :* var 10) :+ var 4 :* (var 0 :* var 5 :- var 6 :* var 11)) :+ var 1 :* (var 6 :* (var 2 :* var 10 :+ var
    4 :* var 11 :- var 7 :* var 12)) :+ var 6 :* (var 7 :* (var 1 :* var 12 :- var 8 :* var 9)))
    (t ∷ k ∷ U ∷ h1 ∷ W ∷ h2 ∷ n ∷ h ∷ c ∷ P ∷ q1 ∷ q2 ∷ L ∷ []) tt in
    let X = U ⊠ h1 ⊞ W ⊠ h2 in
    let s-is = ⊠-cong (of_nat (T * l)) (t ⊠ k) X X (nat-product T l) (omega arith) in
    let U-is = ⊠-cong (of_nat (unit * (H * 67108864))) (n ⊠ (h ⊠ c)) P P (omega (
      arith,
      nat-product unit (H * 67108864),
      ⊠-cong n n (of_nat (H * 67108864))
          (h ⊠ c) (omega arith) (nat-product H 67108864),
    )) (omega arith) in
    let room : l * (u * unit + w * unit) + l * (unit * H) + unit * (H * 67108864) ≤ unit * (H * 67108864) * r = omega (
      arith,
      ap (λ (j : ℕ). l * unit * j)
          whole,
      mul-le-mul_left (unit * H * 2) blur,
    ) in
    record {
      upper = omega (arith, same, s-is, U-is, room, y1.upper, y2.upper, y3.upper);
      lower = omega (
        arith,
        same,
        s-is,
        U-is,
        room,
        y1.lower,
        y2.lower,
        y3.lower,
      );
    }

-- the centre, u c1 + w c2
pub centre-part : (u w unit H : ℕ) (c1 c2 d1 d2 D : Int) → u + w ≡ H → Within (2 * unit) (c1 ⊟ of_nat unit ⊠ d1) → Within (2 * unit) (c2 ⊟ of_nat unit ⊠ d2)
    → Within H (of_nat u ⊠ d1 ⊞ of_nat w ⊠ d2 ⊟ of_nat H ⊠ D) → Within (3 * (unit * H)) (of_nat u ⊠ c1 ⊞ of_nat w ⊠ c2 ⊟ of_nat (unit * H) ⊠ D)
centre-part u w unit H c1 c2 d1 d2 D whole h1 h2 h3 =
    let U = of_nat u in
    let W = of_nat w in
    let n = of_nat unit in
    let h = of_nat H in
    let e1 = c1 ⊟ n ⊠ d1 in
    let e2 = c2 ⊟ n ⊠ d2 in
    let e3 = U ⊠ d1 ⊞ W ⊠ d2 ⊟ h ⊠ D in
    let y1 = within-product u (2 * unit) U e1 (itself u) h1 in
    let y2 = within-product w (2 * unit) W e2 (itself w) h2 in
    let y3 = within-product unit H n e3 (itself unit) h3 in
    let same = ring (var 0 :* var 1 :+ var 2 :* var 3 :- var 4 :* var 5 :* var 6) (var 0 :* (var 1 :- var 4 :* var 7) :+ var 2 :* (var 3 :- var 4 :* var 8)
    :+ var 4 :* (var 0 :* var 7 :+ var 2 :* var 8 :- var 5 :* var 6)) (U ∷ c1 ∷ W ∷ c2 ∷ n ∷ h ∷ D ∷ d1 ∷ d2 ∷ []) tt in
    let n-is = ⊠-cong (of_nat (unit * H)) (n ⊠ h) D D (nat-product unit H) (omega arith) in
    let room : u * (2 * unit) + w * (2 * unit) + unit * H ≤ 3 * (unit * H) = omega (arith, ap (λ (j : ℕ). unit * j) whole) in
    record {
      upper = omega (arith, same, n-is, room, y1.upper, y2.upper, y3.upper);
      lower = omega (
        arith,
        same,
        n-is,
        room,
        y1.lower,
        y2.lower,
        y3.lower,
      );
    }

-- a weighted sum of three parts X, each within 2 unit of unit v
pub point-part : (w0 w1 w2 unit W : ℕ) (X0 X1 X2 v0 v1 v2 a : Int) → w0 + w1 + w2 ≡ W → Within (2 * unit) (X0 ⊟ of_nat unit ⊠ v0) → Within (2 * unit) (X1 ⊟
    of_nat unit ⊠ v1) → Within (2 * unit) (X2 ⊟ of_nat unit ⊠ v2)
    → Within W (of_nat w0 ⊠ v0 ⊞ of_nat w1 ⊠ v1 ⊞ of_nat w2 ⊠ v2 ⊟ of_nat W ⊠ a)
    → Within (3 * (unit * W)) (of_nat w0 ⊠ X0 ⊞ of_nat w1 ⊠ X1 ⊞ of_nat w2 ⊠ X2 ⊟ of_nat (unit * W) ⊠ a)
point-part w0 w1 w2 unit W X0 X1 X2 v0 v1 v2 a whole h0 h1 h2 h3 =
    let n = of_nat unit in
    let t = of_nat W in
    let a0 = of_nat w0 in
    let a1 = of_nat w1 in
    let a2 = of_nat w2 in
    let e0 = X0 ⊟ n ⊠ v0 in
    let e1 = X1 ⊟ n ⊠ v1 in
    let e2 = X2 ⊟ n ⊠ v2 in
    let e3 = a0 ⊠ v0 ⊞ a1 ⊠ v1 ⊞ a2 ⊠ v2 ⊟ t ⊠ a in
    let y0 = within-product w0 (2 * unit) a0 e0 (itself w0) h0 in
    let y1 = within-product w1 (2 * unit) a1 e1 (itself w1) h1 in
    let y2 = within-product w2 (2 * unit) a2 e2 (itself w2) h2 in
    let y3 = within-product unit W n e3 (itself unit) h3 in
    let same = ring (var 0 :* var 3 :+ var 1 :* var 4 :+ var 2 :* var 5 :- var 6 :* var 7 :* var 8)
    (var 0 :* (var 3 :- var 6 :* var 9) :+ var 1 :* (var 4 :- var 6 :* var 10) :+ var 2 :* (var 5 :- var 6 :* var 11) :+ var 6 :* (var 0 :* var 9 :+ var 1
    :* var 10 :+ var 2 :* var 11 :- var 7 :* var 8))
    (a0 ∷ a1 ∷ a2 ∷ X0 ∷ X1 ∷ X2 ∷ n ∷ t ∷ a ∷ v0 ∷ v1 ∷ v2 ∷ []) tt in
    let n-is = ⊠-cong (of_nat (unit * W)) (n ⊠ t) a a (nat-product unit W) (omega arith) in
    let room : w0 * (2 * unit) + w1 * (2 * unit) + w2 * (2 * unit) + unit * W ≤ 3 * (unit * W) = omega (arith, ap (λ (j : ℕ). unit * j) whole) in
    record {
      upper = omega (arith, same, n-is, room, y0.upper, y1.upper, y2.upper, y3.upper);
      lower = omega (
        arith,
        same,
        n-is,
        room,
        y0.lower,
        y1.lower,
        y2.lower,
        y3.lower,
      );
    }

-- each part of a turn of the point, and of what is left of it: the last rounding. Z is all scales together.
pub last-part : (Z : ℕ) (pa pb xa xb d x : Int) → Within 1073741824 (pa ⊟ of_nat 1073741824 ⊠ xa) → Within 1073741824 (pb ⊟ of_nat 1073741824 ⊠ xb) → x ≃
    xb ⊞ d ⊟ xa
    → Within (Z * 2147483648) (of_nat Z ⊠ (pa ⊟ of_nat 1073741824 ⊠ d ⊟ pb) ⊟ of_nat (Z * 1073741824) ⊠ (0Int ⊟ x))
last-part Z pa pb xa xb d x ha hb hx =
    let z = of_nat Z in
    let c = of_nat 1073741824 in
    let e : Within 2147483648 (pa ⊟ c ⊠ xa ⊟ (pb ⊟ c ⊠ xb)) = record {
      upper = omega (arith, ha.upper, hb.lower);
      lower = omega (
        arith,
        ha.lower,
        hb.upper,
      );
    } in
    let y = within-product Z 2147483648 z (pa ⊟ c ⊠ xa ⊟ (pb ⊟ c ⊠ xb)) (itself Z) e in
    let x-is = ⊠-cong (of_nat (Z * 1073741824)) (z ⊠ c) (0Int ⊟ x) (0Int ⊟ (xb ⊞ d ⊟ xa)) (nat-product Z 1073741824) (omega (arith, hx)) in
    let same = ring (var 0 :* (var 2 :- var 1 :* var 6 :- var 3) :- var 0 :* var 1 :* (lit 0Int :- (var 5 :+ var 6 :- var 4))) (var 0 :* (var 2 :- var 1 :*
    var 4 :- (var 3 :- var 1 :* var 5))) (z ∷ c ∷ pa ∷ pb ∷ xa ∷ xb ∷ d ∷ []) tt in
    record { upper = omega (arith, same, x-is, y.upper); lower = omega (arith, same, x-is, y.lower) }
