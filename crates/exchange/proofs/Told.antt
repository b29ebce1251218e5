-- What an exact call tells of the nearest difference. Assumes nothing.
use mathlib.Core.Path.{◌≡◌, refl}
use mathlib.Core.Bool.{◌&&◌}
use mathlib.Core.List.{[], ◌∷◌}
use Prim.Native.Nat.{ℕ}
use native.Mathlib.Omega.{arith}
use lib.Dec.{leb}
use lib.ListN.{get_or}
use lib.Ieee.Fits.{and_l, and_r}
use Rattle.integers.specs.Signed.{Int, 0Int, of_nat, ◌⊟◌, ◌⊠◌, ◌≃◌}
use Rattle.integers.specs.Polynomial.{var, ◌:-◌, ◌:*◌}
use Rattle.integers.proofs.Signed.{⊠-comm, ⊠-zero, ⊠-one, ⊠-cong, ⊠-cong-r, ⊠-square, ⊠-nonneg}
use Rattle.integers.proofs.Ring.{ring}
use Rattle.model.specs.declared.SimplexCache.{SimplexCache}
use Rattle.model.specs.declared.Ending.{Ending}
use Rattle.model.specs.declared.Ending.TheVariants.{Touching, Settled, RoundLimit}
use Rattle.model.specs.Distance.{all_below}
use Rattle.plane.specs.Plane.{dot, total}
use Rattle.plane.specs.Fraction.{Place, ◌≈◌}
use Rattle.plane.specs.Outline.{Outline, PointOf, divisor}
use Rattle.exact.specs.Shared.{SharesPoint, SpansNearestPlace}
use Rattle.exact.specs.SquaredPaper.{Exact}
use Rattle.exchange.specs.Exchange.{difference_of, NearestDifference, spanned, origin_place, Tells}
use Rattle.plane.proofs.Weights.{on_corners, moved-to-corners}
use Rattle.exact.proofs.Entries.{entries_below}
use Rattle.exchange.proofs.Places.{cancel, same_back, same-through, one-nearest-difference}

-- ---- the origin
pub at-origin : (x : Int) (k : Int) → x ≃ 0Int → of_nat 1 ⊠ x ≃ k ⊠ 0Int
at-origin x k h = omega (arith, ⊠-zero k, ⊠-comm (of_nat 1) x, ⊠-one x)

pub is-nothing : (x k : Int) → of_nat 1 ⊠ x ≃ k ⊠ 0Int → x ≃ 0Int
is-nothing x k h = omega (arith, ⊠-zero k, ⊠-comm (of_nat 1) x, ⊠-one x)

module _ (a b : Outline) where
  origin-nearest : SharesPoint a b → NearestDifference a b origin_place
  origin-nearest s =
      let d = difference_of a b s.p s.q in
      record {
        some = omega arith;
        p = s.p;
        q = s.q;
        is = (same_back d origin_place (
          at-origin d.over.x d.under (omega (arith, s.equal-x)),
          at-origin d.over.y d.under
              (omega (arith, s.equal-y)),
        ));
        least = λ p q. let e = difference_of a b p q in
            omega (
              arith,
              ⊠-cong-r (e.under ⊠ e.under) (dot origin_place.over origin_place.over) 0Int (omega (arith, ⊠-zero 0Int)),
              ⊠-zero (e.under ⊠ e.under),
              ⊠-nonneg (of_nat 1 ⊠ of_nat 1) (dot e.over e.over) (⊠-square (of_nat 1)) (omega (arith, ⊠-square e.over.x, ⊠-square e.over.y)),
            );
      }

  origin-shared : (u : Place) → NearestDifference a b u → u ≈ origin_place → SharesPoint a b
  origin-shared u n (x, y) =
      let d = difference_of a b n.p n.q in
      let nothing : (z w : Int) → z ≃ 0Int → d.under ⊠ z ≃ u.under ⊠ w → w ≃ 0Int =
      λ z w h e. cancel u.under w n.some (omega (arith, ⊠-cong-r d.under z 0Int h, ⊠-zero d.under)) in
      let x0 = nothing u.over.x d.over.x (is-nothing u.over.x u.under x) n.is.0 in
      let y0 = nothing u.over.y d.over.y (is-nothing u.over.y u.under y) n.is.1 in
      record { p = n.p; q = n.q; equal-x = omega arith; equal-y = omega arith }

  -- ---- the cache's corners
  module _ (c : SimplexCache) (S : SpansNearestPlace a b c) where
    spanned-nearest : NearestDifference a b (spanned a b c S.weight)
    spanned-nearest =
        let n = c.count in
        let w = S.weight in
        let ok_a = all_below a.count c.index_a n in
        let ok_b = all_below b.count c.index_b n in
        let in_a = entries_below a.count c.index_a n (and_r (leb n 3) ok_a (and_l (leb n 3 && ok_a) ok_b S.corners)) in
        let in_b = entries_below b.count c.index_b n (and_r (leb n 3 && ok_a) ok_b S.corners) in
        let name_a : ℕ → ℕ = λ i. get_or c.index_a i 0 in
        let name_b : ℕ → ℕ = λ i. get_or c.index_b i 0 in
        let (t_a, x_a) = moved-to-corners (λ i. (a.corner i).x) name_a a.count n w in_a in
        let (_, y_a) = moved-to-corners (λ i. (a.corner i).y) name_a a.count n w in_a in
        let (t_b, x_b) = moved-to-corners (λ i. (b.corner i).x) name_b b.count n w in_b in
        let (_, y_b) = moved-to-corners (λ i. (b.corner i).y) name_b b.count n w in_b in
        let p : PointOf a = record { weight = on_corners name_a n w; some = omega (arith, S.some) } in
        let q : PointOf b = record { weight = on_corners name_b n w; some = omega (arith, S.some) } in
        let k = of_nat (total n w) in
        let part : (x y z w : Int) → x ≃ z → y ≃ w → divisor a p ⊠ divisor b q ⊠ (z ⊟ w) ≃ k ⊠ (divisor b q ⊠ x ⊟ divisor a p ⊠ y) =
        λ x y z w hx hy. omega (
          arith,
          ⊠-cong (divisor a p ⊠ divisor b q) (k ⊠ k) (z ⊟ w) (z ⊟ w) (⊠-cong (divisor a p) k (divisor b q) k (omega arith) (omega arith)) refl,
          ⊠-cong-r k (divisor b q ⊠ x ⊟ divisor a p ⊠ y) (k ⊠ z ⊟ k ⊠ w)
              (omega (arith, ⊠-cong (divisor b q) k x z (omega arith) hx, ⊠-cong (divisor a p) k y w (omega arith) hy)),
          ring (var 0 :* var 0 :* (var 1 :- var 2)) (var 0 :* (var 0 :* var 1 :- var 0 :* var 2)) (k ∷ z ∷ w ∷ []) tt,
        ) in
        record {
          some = omega (arith, S.some);
          p = p;
          q = q;
          is = (part _ _ _ _ x_a x_b, part _ _ _ _ y_a y_b);
          least = S.nearest;
        }

  -- ---- an exact call
  by-cache : (e : Ending) (c : SimplexCache) → Exact a b e c → (e ≡ Touching → ⊥) → (u : Place) × Tells a b e c u
  by-cache e c x other =
      let S = x.otherwise_nearest other in (
        spanned a b c S.weight,
        record {
          nearest = spanned-nearest c S;
          touching_at_origin = λ h. absurd (other h);
          origin_touches = λ h. x.sharing_touches (origin-shared (spanned a b c S.weight) (spanned-nearest c S) h);
          otherwise_spanned = λ _. record { corners = S.corners; weight = S.weight; some = S.some; is = (refl, refl) };
        },
      )

  pub told : (e : Ending) (c : SimplexCache) → Exact a b e c → (u : Place) × Tells a b e c u
  told Touching c x = (
    origin_place,
    record {
      nearest = origin-nearest (x.touching_shares refl);
      touching_at_origin = λ _. (refl, refl);
      origin_touches = λ _. refl;
      otherwise_spanned = λ k. absurd (k refl);
    },
  )
  told Settled c x = by-cache Settled c x other
    where
      other : Settled ≡ Touching → ⊥
      other e = let z : ◌≡◌ {A = ℕ} 0 1 = cc in omega arith
  told RoundLimit c x = by-cache RoundLimit c x other
    where
      other : RoundLimit ≡ Touching → ⊥
      other e = let z : ◌≡◌ {A = ℕ} 0 1 = cc in omega arith

  -- what it tells in one way it tells in every way of writing the nearest difference
  pub told-too : {e : Ending} {c : SimplexCache} {u v : Place} → Tells a b e c u → NearestDifference a b v → Tells a b e c v
  told-too {e} {c} {u} {v} t n =
      let same = one-nearest-difference a b u v t.nearest n in
      record {
        nearest = n;
        touching_at_origin = λ h. same-through v u origin_place t.nearest.some (same_back u v same) (t.touching_at_origin h);
        origin_touches = λ h. t.origin_touches (same-through u v origin_place n.some same h);
        otherwise_spanned = λ k. let S = t.otherwise_spanned k in
            record { corners = S.corners; weight = S.weight; some = S.some; is = same-through v u _ t.nearest.some (same_back u v same) S.is };
      }
