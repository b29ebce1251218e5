-- The inputs on squared paper: every difference of corners that the call forms is exact, and its two support searches find corners that lie furthest. Assumes nothing.
use mathlib.Core.Path.{◌≡◌, ap, ◌∙◌}
use mathlib.Core.List.{List, [], ◌∷◌}
use Prim.Native.Nat.{ℕ, suc, ◌+◌, ◌*◌, ◌/◌, ◌^◌, ◌≤◌, ◌<◌}
use native.Mathlib.Nat.{lt_of_not-le, le_of_suc-le-suc, mul-le-mul_right, pow-suc, pow-zero, one-mul}
use native.Mathlib.Omega.{arith}
use lib.Dec.{T, leb, leb→le, lit≤}
use lib.ListN.{length}
use lib.Ieee.{Float, Format, binary32, binary64, prec}
use lib.Ieee as I
use Rattle.integers.specs.Signed.{Int, of_nat, neg, ◌⊞◌, ◌⊟◌, ◌⊠◌, ◌≼◌, ◌≃◌}
use Rattle.integers.specs.Whole.{IsWhole, Within, Sized}
use Rattle.integers.specs.Polynomial.{var, lit, ◌:+◌, ◌:-◌, ◌:*◌, negated}
use Rattle.integers.proofs.Signed.{⊠-cong-r, ⊠-one, ⊠-square}
use Rattle.integers.proofs.Ring.{ring}
use Rattle.integers.proofs.Exact.{add-exact, sub-exact, mul-exact}
use Rattle.integers.proofs.Sized.{within-product, room_for, add-sized, sub-sized, mul-sized}
use Rattle.model.specs.declared.Vector.{Vector}
use Rattle.model.specs.declared.Pose.{Pose}
use Rattle.model.specs.Ground.{minus, negate, inverse_rotate, on_point}
use Rattle.model.specs.Support.{point}
use Rattle.model.specs.Distance.{support_a, support_b}
use Rattle.plane.specs.Plane.{Point, sum, difference, opposite, turned, turned_back, dot}
use Rattle.exact.specs.SquaredPaper.{IsPoint, Near, SquaredPaper, Room, posed_b}
use Rattle.exact.proofs.Vectors.{SizedPoint, weaken-point, negate-sized}
use Rattle.exact.proofs.Furthest.{support-furthest}

-- ---- a cosine and a sine are at most 1 in size
at_most_one : (c : Int) → c ⊠ c ≼ of_nat 1 → c.plus ≤ c.minus + 1
at_most_one c h = le_of_suc-le-suc (lt_of_not-le (λ (n : suc (c.minus + 1) ≤ c.plus). clash n))
  where
    clash : suc (c.minus + 1) ≤ c.plus → ⊥
    clash n =
        let less = var 0 :- lit (of_nat 2) in
        omega (arith, ⊠-square (c ⊟ of_nat 2), ring (less :* less) (var 0 :* var 0 :- var 0 :- var 0 :- var 0 :- var 0 :+ lit (of_nat 4)) (c ∷ []) tt)

pub unit-root : (c : Int) → c ⊠ c ≼ of_nat 1 → Within 1 c
unit-root c h = record {
  upper = at_most_one c h;
  lower = at_most_one (neg c)
      (omega (arith, ring (negated (var 0) :* negated (var 0)) (var 0 :* var 0) (c ∷ []) tt));
}

-- ---- operations on whole numbers of at most n in size
pub record Small (n : ℕ) (x : Float) (z : Int) : Type 0 where
  pub whole : IsWhole x z
  pub within : Within n z

-- four times the domain's largest number has room in either format
pub wide : (f : Format) → 4194304 ≤ 2 ^ prec f
wide binary32 = lit≤ tt
wide binary64 = lit≤ tt

module _ (f : Format) where
  module _ {n : ℕ} {x y : Float} {a b : Int} where
    pub turn_small : T (leb n 4194304) → Small 1 x a → Small n y b → Small n (I.mul f x y) (a ⊠ b)
    turn_small h i j =
        let p = within-product 1 n a b i.within j.within in
        let e : 1 * n ≡ n = one-mul n in
        let l = leb→le n 4194304 h in
        let w = wide f in
        record {
          whole = mul-exact f x y a b i.whole j.whole (record { upper = omega (arith, p.upper); lower = omega (arith, p.lower) });
          within = record { upper = omega (arith, p.upper); lower = omega (arith, p.lower) };
        }

    module _ {m : ℕ} (h : T (leb (n + m) 4194304)) (i : Small n x a) (j : Small m y b) where
      pub add_small : Small (n + m) (I.add f x y) (a ⊞ b)
      add_small =
          let l = leb→le (n + m) 4194304 h in
          let w = wide f in
          record {
            whole = add-exact f x y a b i.whole j.whole
                (record { upper = omega (arith, i.within.upper, j.within.upper); lower = omega (arith, i.within.lower, j.within.lower) });
            within = record { upper = omega (arith, i.within.upper, j.within.upper); lower = omega (arith, i.within.lower, j.within.lower) };
          }

      sub_small : Small (n + m) (I.sub f x y) (a ⊟ b)
      sub_small =
          let l = leb→le (n + m) 4194304 h in
          let w = wide f in
          record {
            whole = sub-exact f x y a b i.whole j.whole
                (record { upper = omega (arith, i.within.upper, j.within.lower); lower = omega (arith, i.within.lower, j.within.upper) });
            within = record { upper = omega (arith, i.within.upper, j.within.lower); lower = omega (arith, i.within.lower, j.within.upper) };
          }

-- ---- a quarter-turn
module _ {bound : ℕ} {p : Pose} {a b : List Float} (paper : SquaredPaper bound p a b) where
  pub cosine-is : Small 1 p.rotation.c paper.cosine
  cosine-is = record { whole = paper.whole_cosine; within = unit-root paper.cosine (omega (arith, paper.quarter_turn, ⊠-square paper.sine)) }

  pub sine-is : Small 1 p.rotation.s paper.sine
  sine-is = record { whole = paper.whole_sine; within = unit-root paper.sine (omega (arith, paper.quarter_turn, ⊠-square paper.cosine)) }

-- ---- what an answered call tells of its inputs
pub record InDomain {bound : ℕ} {p : Pose} {a b : List Float} (paper : SquaredPaper bound p a b) : Type 0 where
  pub some_a : 0 < length a / 2
  pub some_b : 0 < length b / 2
  pub few_a : length a ≤ 128
  pub few_b : length b ≤ 128
  pub small_b : (j : ℕ) → j < length b / 2 → Near 1048576 (paper.corner_b j)
  pub small_shift : Near 1048576 paper.shift

module _ (f : Format) {bound : ℕ} (room : Room f bound) {p : Pose} {a b : List Float} (paper : SquaredPaper bound p a b) (domain : InDomain paper) where
  abbrev c : Int
  c = paper.cosine

  abbrev s : Int
  s = paper.sine

  abbrev posed : ℕ → Point
  posed = (posed_b paper).corner

  posed-is : (j : ℕ) → j < length b / 2 → IsPoint (on_point f p (point b j)) (posed j)
  posed-is j h =
      let x : Small 1048576 (point b j).x (paper.corner_b j).x = record { whole = (paper.whole_b j h).x; within = (domain.small_b j h).x } in
      let y : Small 1048576 (point b j).y (paper.corner_b j).y = record { whole = (paper.whole_b j h).y; within = (domain.small_b j h).y } in
      let tx : Small 1048576 p.translation.x paper.shift.x = record { whole = paper.whole_shift.x; within = domain.small_shift.x } in
      let ty : Small 1048576 p.translation.y paper.shift.y = record { whole = paper.whole_shift.y; within = domain.small_shift.y } in
      record {
        x = (add_small f tt (sub_small f tt (turn_small f tt (cosine-is paper) x) (turn_small f tt (sine-is paper) y)) tx).whole;
        y = (add_small f tt (add_small f tt (turn_small f tt (sine-is paper) x) (turn_small f tt (cosine-is paper) y)) ty).whole;
      }

  -- ---- differences of corners
  bound-to-the-one : bound ^ 1 ≡ bound
  bound-to-the-one = pow-suc bound 0 ∙ ap (λ (z : ℕ). z * bound) (pow-zero bound) ∙ one-mul bound

  sub_within : {u w : Float} {y z : Int} (n : ℕ) → IsWhole u y → IsWhole w z → T (leb n 4) → Within (n * bound) (y ⊟ z) → Sized bound (I.sub f u w) (y ⊟ z) n 1
  sub_within {u} {w} {y} {z} n i j h b =
      let e : n * bound ^ 1 ≡ n * bound = ap (λ (q : ℕ). n * q) bound-to-the-one in
      let r = room_for f bound room.0 room.1 4 1 tt tt in
      let q : n * bound ≤ 4 * bound = mul-le-mul_right bound (leb→le n 4 h) in
      record {
        int = sub-exact f u w y z i j (record { upper = omega (arith, b.upper, bound-to-the-one); lower = omega (arith, b.lower, bound-to-the-one) });
        small = record { upper = omega (arith, b.upper); lower = omega (arith, b.lower) };
      }

  minus-within : {u w : Vector} {y z : Point} (n : ℕ) → IsPoint u y → IsPoint w z → T (leb n 4) → Near (n * bound) (difference y z)
      → SizedPoint bound (minus f u w) (difference y z) n 1
  minus-within n i j h b = record { x = sub_within n i.x j.x h b.x; y = sub_within n i.y j.y h b.y }

  pub pair-sized : (i j : ℕ) → i < length a / 2 → j < length b / 2 → SizedPoint bound (minus f (point a i) (on_point f p (point b j)))
      (difference (paper.corner_a i) (posed j)) 1 1
  pair-sized i j h k =
      let n = paper.near i j h k in
      minus-within 1 (paper.whole_a i h) (posed-is j k) tt (record {
        x = record { upper = omega (arith, n.x.upper); lower = omega (arith, n.x.lower) };
        y = record { upper = omega (arith, n.y.upper); lower = omega (arith, n.y.lower) };
      })

  -- two corners of A are near each other, since both are near a posed corner of B
  pub across_a : (i : ℕ) → i < length a / 2 → SizedPoint bound (minus f (point a i) (point a 0)) (difference (paper.corner_a i) (paper.corner_a 0)) 4 1
  across_a i h =
      let n = paper.near i 0 h domain.some_b in
      let m = paper.near 0 0 domain.some_a domain.some_b in
      minus-within 4 (paper.whole_a i h) (paper.whole_a 0 domain.some_a) tt (record {
        x = record { upper = omega (arith, n.x.upper, m.x.lower); lower = omega (arith, n.x.lower, m.x.upper) };
        y = record { upper = omega (arith, n.y.upper, m.y.lower); lower = omega (arith, n.y.lower, m.y.upper) };
      })

  -- so are two of B: turned back, the difference of the posed ones is theirs
  pub across_b : (j : ℕ) → j < length b / 2 → SizedPoint bound (minus f (point b j) (point b 0)) (difference (paper.corner_b j) (paper.corner_b 0)) 4 1
  across_b j h =
      let n = paper.near 0 j domain.some_a h in
      let m = paper.near 0 0 domain.some_a domain.some_b in
      let q = paper.corner_b j in
      let o = paper.corner_b 0 in
      let D = difference (posed j) (posed 0) in
      let dx : Within (2 * bound) D.x = record { upper = omega (arith, n.x.lower, m.x.upper); lower = omega (arith, n.x.upper, m.x.lower) } in
      let dy : Within (2 * bound) D.y = record { upper = omega (arith, n.y.lower, m.y.upper); lower = omega (arith, n.y.upper, m.y.lower) } in
      let cx = within-product 1 (2 * bound) c D.x (cosine-is paper).within dx in
      let cy = within-product 1 (2 * bound) c D.y (cosine-is paper).within dy in
      let sx = within-product 1 (2 * bound) s D.x (sine-is paper).within dx in
      let sy = within-product 1 (2 * bound) s D.y (sine-is paper).within dy in
      let ρ : List Int = c ∷ s ∷ q.x ∷ q.y ∷ o.x ∷ o.y ∷ paper.shift.x ∷ paper.shift.y ∷ [] in
      let X = var 0 :* var 2 :- var 1 :* var 3 :+ var 6 :- (var 0 :* var 4 :- var 1 :* var 5 :+ var 6) in
      let Y = var 1 :* var 2 :+ var 0 :* var 3 :+ var 7 :- (var 1 :* var 4 :+ var 0 :* var 5 :+ var 7) in
      let square = var 0 :* var 0 :+ var 1 :* var 1 in
      let one-times : (z : Int) → z ⊠ (c ⊠ c ⊞ s ⊠ s) ≃ z = λ z. omega (arith, ⊠-cong-r z (c ⊠ c ⊞ s ⊠ s) (of_nat 1) paper.quarter_turn, ⊠-one z) in
      let ex : (turned_back c s D).x ≃ q.x ⊟ o.x = omega (arith, ring (var 0 :* X :+ var 1 :* Y) ((var 2 :- var 4) :* square) ρ tt, one-times (q.x ⊟ o.x)) in
      let ey : (turned_back c s D).y ≃ q.y ⊟ o.y = omega (arith, ring (var 0 :* Y :- var 1 :* X) ((var 3 :- var 5) :* square) ρ tt, one-times (q.y ⊟ o.y)) in
      minus-within 4 (paper.whole_b j h) (paper.whole_b 0 domain.some_b) tt (record {
        x = record { upper = omega (arith, cx.upper, sy.upper, ex); lower = omega (arith, cx.lower, sy.lower, ex) };
        y = record { upper = omega (arith, cy.upper, sx.lower, ey); lower = omega (arith, cy.lower, sx.upper, ey) };
      })

  -- ---- the two support searches
  unit-sized : {x : Float} {z : Int} → Small 1 x z → Sized bound x z 1 0
  unit-sized i =
      let e : 1 * bound ^ 0 ≡ 1 = ap (λ (q : ℕ). 1 * q) (pow-zero bound) in
      record { int = i.whole; small = record { upper = omega (arith, i.within.upper); lower = omega (arith, i.within.lower) } }

  pub turned-back : {d : Vector} {e : Point} → SizedPoint bound d e 16 3 → SizedPoint bound (inverse_rotate f p.rotation (negate d))
      (turned_back c s (opposite e)) 32 3
  turned-back i =
      let n = negate-sized f bound room i in
      let ic = unit-sized (cosine-is paper) in
      let is = unit-sized (sine-is paper) in
      record {
        x = add-sized f bound room.0 room.1 (mul-sized f bound room.0 room.1 ic n.x tt tt)
            (mul-sized f bound room.0 room.1 is n.y tt tt) tt tt;
        y = sub-sized f bound room.0 room.1 (mul-sized f bound room.0 room.1 ic n.y tt tt)
            (mul-sized f bound room.0 room.1 is n.x tt tt) tt tt;
      }

  -- along the opposite of e, turned back, a corner of B lies as far as its posed corner lies back along e
  adjoint : (e u w : Point) → dot (turned_back c s (opposite e)) u ⊟ dot (turned_back c s (opposite e)) w ≃ dot e (sum (turned c s w) paper.shift) ⊟ dot e
      (sum (turned c s u) paper.shift)
  adjoint e u w =
      let X = var 6 :* negated (var 0) :+ var 7 :* negated (var 1) in
      let Y = var 6 :* negated (var 1) :- var 7 :* negated (var 0) in
      ring (X :* var 2 :+ Y :* var 3 :- (X :* var 4 :+ Y :* var 5))
      (var 0 :* (var 6 :* var 4 :- var 7 :* var 5 :+ var 8) :+ var 1 :* (var 7 :* var 4 :+ var 6 :* var 5 :+ var 9)
      :- (var 0 :* (var 6 :* var 2 :- var 7 :* var 3 :+ var 8) :+ var 1 :* (var 7 :* var 2 :+ var 6 :* var 3 :+ var 9)))
      (e.x ∷ e.y ∷ u.x ∷ u.y ∷ w.x ∷ w.y ∷ c ∷ s ∷ paper.shift.x ∷ paper.shift.y ∷ []) tt

  -- along e no corner of A lies further, and no posed corner of B less far
  pub record Extreme (e : Point) (i j : ℕ) : Type 0 where
    pub in_a : i < length a / 2
    pub in_b : j < length b / 2
    pub furthest_a : (k : ℕ) → k < length a / 2 → dot e (paper.corner_a k) ≼ dot e (paper.corner_a i)
    pub furthest_b : (k : ℕ) → k < length b / 2 → dot e (posed j) ≼ dot e (posed k)

  pub supports : {d : Vector} {e : Point} → SizedPoint bound d e 16 3 → Extreme e (support_a f a d) (support_b f b p d)
  supports {d} {e} i =
      let on_a = support-furthest f bound room (weaken-point f bound room 32 3 i tt tt) paper.corner_a a domain.some_a domain.few_a across_a in
      let on_b = support-furthest f bound room (turned-back i) paper.corner_b b domain.some_b domain.few_b across_b in
      record {
        in_a = on_a.among;
        in_b = on_b.among;
        furthest_a = on_a.most;
        furthest_b = λ k h. omega (arith, on_b.most k h, adjoint e (paper.corner_b k) (paper.corner_b (support_b f b p d)));
      }
