-- Either one may be called A: exchanging the outlines negates and turns the nearest difference, and a shift of B that the pose takes back keeps it; over either format and
-- every bound that leaves the room, and at the bound of each format. Both calls are exact, so both tell the one nearest difference. Assumes nothing.
use mathlib.Core.Path.{◌≡◌, refl}
use mathlib.Core.Logic.{◌⊎◌, inl, inr}
use mathlib.Core.List.{List, [], ◌∷◌}
use Prim.Native.Nat.{ℕ, zero, suc, ◌*◌, ◌/◌, ◌≤◌, ◌<◌}
use native.Mathlib.Nat.{one-mul}
use native.Mathlib.Omega.{arith}
use lib.ListN.{length}
use lib.Ieee.{Float, Format}
use Rattle.integers.specs.Signed.{Int, 0Int, of_nat, neg, ◌⊞◌, ◌⊟◌, ◌⊠◌, ◌≺◌, ◌≃◌}
use Rattle.integers.specs.Whole.{Within}
use Rattle.integers.specs.Polynomial.{var, ◌:+◌, ◌:-◌, ◌:*◌, negated, ⟦◌⟧}
use Rattle.integers.proofs.Signed.{le-or-lt, ⊠-comm, ⊠-zero, ⊠-one, ⊠-cong, ⊠-cong-r, ⊠-square, ⊠-pos}
use Rattle.integers.proofs.Ring.{ring}
use Rattle.integers.proofs.Sized.{within-product}
use Rattle.model.specs.declared.Pose.{Pose}
use Rattle.model.specs.declared.SimplexCache.{SimplexCache}
use Rattle.model.specs.declared.Ending.{Ending}
use Rattle.plane.specs.Plane.{Point, sum, difference, opposite, turned, turned_back, dot, total, weighted_sum}
use Rattle.plane.specs.Fraction.{Place, ◌≈◌, ◌≤ᶠ◌, squared}
use Rattle.plane.specs.Outline.{PointOf, divisor, dividend, gap}
use Rattle.exact.specs.SquaredPaper.{Near, SquaredPaper, Room, bound_of, outline_a, posed_b, InTheDomain, Exact}
use Rattle.exchange.specs.Exchange.{difference_of, NearestDifference, origin_place, own_b, posed_a, inverse_shift, negated_and_turned, IsInverse}
use Rattle.exchange.specs.Exchange.{ExchangeTurns, Exchange}
use Rattle.exact.proofs.Paper.{unit-root}
use Rattle.circles.proofs.Shorter.{both_zero}
use Rattle.exchange.proofs.Told.{at-origin, is-nothing, told, told-too}
use Rattle.exact.proofs.Demand3.{demand3, room_of}

-- ---- turns
negated-squared : (x : Int) → neg x ⊠ neg x ≃ x ⊠ x
negated-squared x = ring (negated (var 0) :* negated (var 0)) (var 0 :* var 0) (x ∷ []) tt

module _ (c s : Int) (quarter : c ⊠ c ⊞ s ⊠ s ≃ of_nat 1) where
  one-times : (z : Int) → z ⊠ (c ⊠ c ⊞ s ⊠ s) ≃ z
  one-times z = omega (arith, ⊠-cong-r z (c ⊠ c ⊞ s ⊠ s) (of_nat 1) quarter, ⊠-one z)

  -- a turn keeps lengths
  turn-keeps-length : (v : Point) → dot (turned c s v) (turned c s v) ≃ dot v v
  turn-keeps-length v =
      let x = var 0 :* var 2 :- var 1 :* var 3 in
      let y = var 1 :* var 2 :+ var 0 :* var 3 in
      omega (
        arith,
        ring (x :* x :+ y :* y) ((var 2 :* var 2 :+ var 3 :* var 3) :* (var 0 :* var 0 :+ var 1 :* var 1)) (c ∷ s ∷ v.x ∷ v.y ∷ []) tt,
        one-times (dot v v),
      )

  -- turned back, negated and then negated and turned: as it was
  there_and_back : (v w : Point) → w.x ≃ neg (turned_back c s v).x → w.y ≃ neg (turned_back c s v).y
      → (v.x ≃ neg (turned c s w).x) × (v.y ≃ neg (turned c s w).y)
  there_and_back v w hx hy =
      let X = negated (var 0 :* var 2 :+ var 1 :* var 3) in
      let Y = negated (var 0 :* var 3 :- var 1 :* var 2) in
      let ρ : List Int = c ∷ s ∷ v.x ∷ v.y ∷ [] in
      let x = neg (turned_back c s v).x in
      let y = neg (turned_back c s v).y in
      let square = var 0 :* var 0 :+ var 1 :* var 1 in (
        omega (arith, ⊠-cong-r c w.x x hx, ⊠-cong-r s w.y y hy, ring (negated (var 0 :* X :- var 1 :* Y)) (var 2 :* square) ρ tt, one-times v.x),
        omega (arith, ⊠-cong-r s w.x x hx, ⊠-cong-r c w.y y hy, ring (negated (var 1 :* X :+ var 0 :* Y)) (var 3 :* square) ρ tt, one-times v.y),
      )

  -- a quarter-turn: one of the two is nothing
  turn-within : (bound : ℕ) (x y : Int) → Within bound x → Within bound y → Within bound (c ⊠ x ⊞ s ⊠ y)
  turn-within bound x y wx wy = go (le-or-lt c.plus c.minus) (le-or-lt c.minus c.plus)
    where
      same : 1 * bound ≡ bound
      same = one-mul bound

      by-sine : c ≃ 0Int → Within bound (c ⊠ x ⊞ s ⊠ y)
      by-sine h =
          let w = within-product 1 bound s y (unit-root s (omega (arith, quarter, ⊠-square c))) wy in
          let none : c ⊠ x ≃ 0Int = omega (arith, ⊠-cong c 0Int x x h refl, ⊠-comm 0Int x, ⊠-zero x) in
          record { upper = omega (arith, w.upper, same); lower = omega (arith, w.lower, same) }

      by-cosine : 0Int ≺ c ⊠ c → Within bound (c ⊠ x ⊞ s ⊠ y)
      by-cosine h =
          let w = within-product 1 bound c x (unit-root c (omega (arith, quarter, ⊠-square s))) wx in
          let (s0, _) = both_zero s 0Int (omega (arith, quarter, ⊠-zero 0Int)) in
          let none : s ⊠ y ≃ 0Int = omega (arith, ⊠-cong s 0Int y y s0 refl, ⊠-comm 0Int y, ⊠-zero y) in
          record { upper = omega (arith, w.upper, same); lower = omega (arith, w.lower, same) }

      go : (c.plus ≤ c.minus) ⊎ (c.minus < c.plus) → (c.minus ≤ c.plus) ⊎ (c.plus < c.minus) → Within bound (c ⊠ x ⊞ s ⊠ y)
      go (inl h) (inl k) = by-sine (omega arith)
      go (inr h) k = by-cosine (⊠-pos c c (omega arith) (omega arith))
      go (inl h) (inr k) =
          by-cosine (omega (arith, ⊠-pos (neg c) (neg c) (omega arith) (omega arith), negated-squared c))

-- a weighted sum under a pose
module _ (weight : ℕ → ℕ) (z : ℕ → Point) (c s : Int) (t : Point) where
  posed-sum : (n : ℕ) → let m = weighted_sum n weight z in
      let posed = weighted_sum n weight (λ i. sum (turned c s (z i)) t) in
      (posed.x ≃ (turned c s m).x ⊞ of_nat (total n weight) ⊠ t.x) × (posed.y ≃ (turned c s m).y ⊞ of_nat (total n weight) ⊠ t.y)
  posed-sum zero = (
    omega (arith, ⊠-zero c, ⊠-zero s, ⊠-comm 0Int t.x, ⊠-zero t.x),
    omega (arith, ⊠-zero c, ⊠-zero s, ⊠-comm 0Int t.y, ⊠-zero t.y),
  )
  posed-sum (suc n) =
      let (x, y) = posed-sum n in
      let m = weighted_sum n weight z in
      let ρ : List Int = c ∷ s ∷ t.x ∷ t.y ∷ m.x ∷ m.y ∷ (z n).x ∷ (z n).y ∷ of_nat (weight n) ∷ of_nat (total n weight) ∷ [] in
      let mx = var 4 :+ var 8 :* var 6 in
      let my = var 5 :+ var 8 :* var 7 in
      let before-x = var 0 :* var 4 :- var 1 :* var 5 :+ var 9 :* var 2 in
      let before-y = var 1 :* var 4 :+ var 0 :* var 5 :+ var 9 :* var 3 in
      let last-x = var 0 :* var 6 :- var 1 :* var 7 :+ var 2 in
      let last-y = var 1 :* var 6 :+ var 0 :* var 7 :+ var 3 in (
        omega (arith, x, ring (before-x :+ var 8 :* last-x) (var 0 :* mx :- var 1 :* my :+ (var 9 :+ var 8) :* var 2) ρ tt),
        omega (arith, y, ring (before-y :+ var 8 :* last-y) (var 1 :* mx :+ var 0 :* my :+ (var 9 :+ var 8) :* var 3) ρ tt),
      )

-- ---- the outlines exchanged
module _ {bound : ℕ} {p : Pose} {a b : List Float} (paper : SquaredPaper bound p a b) where
  abbrev c : Int
  c = paper.cosine

  abbrev s : Int
  s = paper.sine

  abbrev t : Point
  t = paper.shift

  module _ (α : PointOf (outline_a paper)) (β : PointOf (posed_b paper)) where
    abbrev ownβ : PointOf (own_b paper)
    ownβ = record { weight = β.weight; some = β.some }

    abbrev posedα : PointOf (posed_a paper)
    posedα = record { weight = α.weight; some = α.some }

    abbrev here : Point
    here = gap (outline_a paper) (posed_b paper) α β

    abbrev there : Point
    there = gap (own_b paper) (posed_a paper) ownβ posedα

    seen-from-B : (there.x ≃ neg (turned_back c s here).x) × (there.y ≃ neg (turned_back c s here).y)
    seen-from-B =
        let A = divisor (outline_a paper) α in
        let B = divisor (posed_b paper) β in
        let P = dividend (outline_a paper) α in
        let L = dividend (own_b paper) ownβ in
        let Q = dividend (posed_b paper) β in
        let R = dividend (posed_a paper) posedα in
        let (qx, qy) = posed-sum β.weight paper.corner_b c s t (length b / 2) in
        let (rx, ry) = posed-sum α.weight paper.corner_a c (neg s) (inverse_shift paper) (length a / 2) in
        let ρ : List Int = A ∷ B ∷ c ∷ s ∷ t.x ∷ t.y ∷ P.x ∷ P.y ∷ L.x ∷ L.y ∷ [] in
        let square = var 2 :* var 2 :+ var 3 :* var 3 in
        let QX = var 2 :* var 8 :- var 3 :* var 9 :+ var 1 :* var 4 in
        let QY = var 3 :* var 8 :+ var 2 :* var 9 :+ var 1 :* var 5 in
        let RX = var 2 :* var 6 :- negated (var 3) :* var 7 :+ var 0 :* negated (var 2 :* var 4 :+ var 3 :* var 5) in
        let RY = negated (var 3) :* var 6 :+ var 2 :* var 7 :+ var 0 :* negated (var 2 :* var 5 :- var 3 :* var 4) in
        let GX = var 1 :* var 6 :- var 0 :* QX in
        let GY = var 1 :* var 7 :- var 0 :* QY in
        let gx : here.x ≃ ⟦ GX ⟧ ρ = omega (arith, ⊠-cong-r A Q.x (⟦ QX ⟧ ρ) qx) in
        let gy : here.y ≃ ⟦ GY ⟧ ρ = omega (arith, ⊠-cong-r A Q.y (⟦ QY ⟧ ρ) qy) in (
          omega (
            arith,
            ⊠-cong-r B R.x (⟦ RX ⟧ ρ) rx,
            ⊠-cong-r c here.x (⟦ GX ⟧ ρ) gx,
            ⊠-cong-r s here.y (⟦ GY ⟧ ρ) gy,
            ring (var 0 :* var 8 :* square :- var 1 :* RX) (negated (var 2 :* GX :+ var 3 :* GY)) ρ tt,
            one-times c s paper.quarter_turn (A ⊠ L.x),
          ),
          omega (
            arith,
            ⊠-cong-r B R.y (⟦ RY ⟧ ρ) ry,
            ⊠-cong-r c here.y (⟦ GY ⟧ ρ) gy,
            ⊠-cong-r s here.x (⟦ GX ⟧ ρ) gx,
            ring (var 0 :* var 9 :* square :- var 1 :* RY) (negated (var 2 :* GY :- var 3 :* GX)) ρ tt,
            one-times c s paper.quarter_turn (A ⊠ L.y),
          ),
        )

    seen-from-A : (here.x ≃ neg (turned c s there).x) × (here.y ≃ neg (turned c s there).y)
    seen-from-A = there_and_back c s paper.quarter_turn here there seen-from-B.0 seen-from-B.1

    same-squares : dot here here ≃ dot there there
    same-squares =
        let v = turned c s there in
        let w = opposite v in
        omega (
          arith,
          turn-keeps-length c s paper.quarter_turn there,
          negated-squared v.x,
          negated-squared v.y,
          ⊠-cong here.x w.x here.x w.x seen-from-A.0 seen-from-A.0,
          ⊠-cong here.y w.y here.y w.y seen-from-A.1 seen-from-A.1,
        )

  turned-over : (u : Place) → NearestDifference (own_b paper) (posed_a paper) u → NearestDifference (outline_a paper) (posed_b paper) (negated_and_turned paper u)
  turned-over u n =
      let α : PointOf (outline_a paper) = record { weight = n.q.weight; some = n.q.some } in
      let β : PointOf (posed_b paper) = record { weight = n.p.weight; some = n.p.some } in
      let A = divisor (outline_a paper) α in
      let B = divisor (posed_b paper) β in
      let k = u.under in
      let h = there α β in
      let (gx, gy) = seen-from-A α β in
      let whole : (x z : Int) → B ⊠ A ⊠ x ≃ k ⊠ z → A ⊠ B ⊠ x ≃ k ⊠ z = λ x z e. omega (arith, ⊠-cong (A ⊠ B) (B ⊠ A) x x (⊠-comm A B) refl) in
      let ex = whole u.over.x h.x n.is.0 in
      let ey = whole u.over.y h.y n.is.1 in
      let across : (m x y : Int) → m ⊠ neg (c ⊠ x ⊟ s ⊠ y) ≃ neg (c ⊠ (m ⊠ x) ⊟ s ⊠ (m ⊠ y)) = λ m x y.
      ring (var 0 :* negated (var 1 :* var 3 :- var 2 :* var 4)) (negated (var 1 :* (var 0 :* var 3) :- var 2 :* (var 0 :* var 4)))
      (m ∷ c ∷ s ∷ x ∷ y ∷ []) tt in
      let up : (m x y : Int) → m ⊠ neg (s ⊠ x ⊞ c ⊠ y) ≃ neg (s ⊠ (m ⊠ x) ⊞ c ⊠ (m ⊠ y)) = λ m x y.
      ring (var 0 :* negated (var 2 :* var 3 :+ var 1 :* var 4)) (negated (var 2 :* (var 0 :* var 3) :+ var 1 :* (var 0 :* var 4)))
      (m ∷ c ∷ s ∷ x ∷ y ∷ []) tt in
      let cx = ⊠-cong-r c (A ⊠ B ⊠ u.over.x) (k ⊠ h.x) ex in
      let sx = ⊠-cong-r s (A ⊠ B ⊠ u.over.x) (k ⊠ h.x) ex in
      let cy = ⊠-cong-r c (A ⊠ B ⊠ u.over.y) (k ⊠ h.y) ey in
      let sy = ⊠-cong-r s (A ⊠ B ⊠ u.over.y) (k ⊠ h.y) ey in
      record {
        some = n.some;
        p = α;
        q = β;
        is = (
          omega (arith, across (A ⊠ B) u.over.x u.over.y, across k h.x h.y, ⊠-cong-r k (here α β).x (neg (turned c s h).x) gx),
          omega (arith, up (A ⊠ B) u.over.x u.over.y, up k h.x h.y, ⊠-cong-r k (here α β).y (neg (turned c s h).y) gy),
        );
        least = λ α β. least α β;
      }
    where
      least : (α : PointOf (outline_a paper)) (β : PointOf (posed_b paper))
          → squared (negated_and_turned paper u) ≤ᶠ squared (difference_of (outline_a paper) (posed_b paper) α β)
      least α β =
          let A = divisor (outline_a paper) α in
          let B = divisor (posed_b paper) β in
          let v = (negated_and_turned paper u).over in
          let w = turned c s u.over in
          omega (
            arith,
            n.least (ownβ α β) (posedα α β),
            ⊠-cong (A ⊠ B ⊠ (A ⊠ B)) (B ⊠ A ⊠ (B ⊠ A)) (dot v v) (dot u.over u.over) (⊠-cong (A ⊠ B) (B ⊠ A) (A ⊠ B) (B ⊠ A) (⊠-comm A B) (⊠-comm A B))
                (omega (arith, turn-keeps-length c s paper.quarter_turn u.over, negated-squared w.x, negated-squared w.y)),
            ⊠-cong-r (u.under ⊠ u.under) (dot (here α β) (here α β)) (dot (there α β) (there α β)) (same-squares α β),
          )

  -- ---- the exchanged call is on squared paper too, within the same bound
  module _ {q : Pose} (inverse : IsInverse paper q) where
    near-there : (j i : ℕ) → j < length b / 2 → i < length a / 2 → Near bound (difference (paper.corner_b j) ((posed_a paper).corner i))
    near-there j i hj hi =
        let n = paper.near i j hi hj in
        let l = paper.corner_b j in
        let m = paper.corner_a i in
        let D = difference m ((posed_b paper).corner j) in
        let square = var 0 :* var 0 :+ var 1 :* var 1 in
        let X = var 2 :- (var 0 :* var 4 :- var 1 :* var 5 :+ var 6) in
        let Y = var 3 :- (var 1 :* var 4 :+ var 0 :* var 5 :+ var 7) in
        let ρ : List Int = c ∷ s ∷ m.x ∷ m.y ∷ l.x ∷ l.y ∷ t.x ∷ t.y ∷ [] in
        let wx = turn-within c s paper.quarter_turn bound D.x D.y n.x n.y in
        let wy = turn-within c (neg s) transposed bound D.y D.x n.y n.x in
        let ex : (difference l ((posed_a paper).corner i)).x ≃ neg (c ⊠ D.x ⊞ s ⊠ D.y) = omega (
          arith,
          ring (var 4 :* square :- (var 0 :* var 2 :- negated (var 1) :* var 3 :+ negated (var 0 :* var 6 :+ var 1 :* var 7)))
              (negated (var 0 :* X :+ var 1 :* Y)) ρ tt,
          one-times c s paper.quarter_turn l.x,
        ) in
        let ey : (difference l ((posed_a paper).corner i)).y ≃ neg (c ⊠ D.y ⊞ neg s ⊠ D.x) = omega (
          arith,
          ring (var 5 :* square :- (negated (var 1) :* var 2 :+ var 0 :* var 3 :+ negated (var 0 :* var 7 :- var 1 :* var 6)))
              (negated (var 0 :* Y :+ negated (var 1) :* X)) ρ tt,
          one-times c s paper.quarter_turn l.y,
        ) in
        record {
          x = record { upper = omega (arith, wx.lower, ex); lower = omega (arith, wx.upper, ex) };
          y = record { upper = omega (arith, wy.lower, ey); lower = omega (arith, wy.upper, ey) };
        }
      where
        transposed : c ⊠ c ⊞ neg s ⊠ neg s ≃ of_nat 1
        transposed = omega (arith, paper.quarter_turn, negated-squared s)

    pub exchanged-paper : SquaredPaper bound q b a
    exchanged-paper = record {
      corner_a = paper.corner_b;
      corner_b = paper.corner_a;
      cosine = c;
      sine = neg s;
      shift = inverse_shift paper;
      whole_a = paper.whole_b;
      whole_b = paper.whole_a;
      whole_cosine = inverse.cosine;
      whole_sine = inverse.sine;
      quarter_turn = omega (arith, paper.quarter_turn, negated-squared s);
      whole_shift = inverse.shift;
      near = near-there;
    }

    -- and in the domain: a turn back keeps the shift's size on each axis
    pub exchanged-in-domain : (f : Format) (ra rb : Float) → InTheDomain f paper ra rb → InTheDomain f exchanged-paper rb ra
    unfolding exchanged-paper
    exchanged-in-domain f ra rb d =
        let n = d.near_shift in
        let wx = turn-within c s paper.quarter_turn 1048576 t.x t.y n.x n.y in
        let wy =
        turn-within c (neg s) (omega (arith, paper.quarter_turn, negated-squared s)) 1048576 t.y t.x n.y n.x in
        let same = ring (negated (var 0) :* var 1) (negated (var 0 :* var 1)) (s ∷ t.x ∷ []) tt in
        record {
          points_a = d.points_b;
          points_b = d.points_a;
          near_a = d.near_b;
          near_b = d.near_a;
          radii = (d.radii.1, d.radii.0);
          near_shift = record {
            x = record { upper = omega (arith, wx.lower); lower = omega (arith, wx.upper) };
            y = record { upper = omega (arith, wy.lower, same); lower = omega (arith, wy.upper, same) };
          };
        }

    exact-there : {e : Ending} {k : SimplexCache} → Exact (outline_a exchanged-paper) (posed_b exchanged-paper) e k → Exact (own_b paper) (posed_a paper) e k
    unfolding exchanged-paper
    exact-there x = x

  -- the origin is turned into the origin, and nothing else is
  origin-turned : (u : Place) → u ≈ origin_place → negated_and_turned paper u ≈ origin_place
  origin-turned u (hx, hy) =
      let x = is-nothing u.over.x u.under hx in
      let y = is-nothing u.over.y u.under hy in
      let c0 : (z : Int) → z ≃ 0Int → c ⊠ z ≃ 0Int = λ z h. omega (arith, ⊠-cong-r c z 0Int h, ⊠-zero c) in
      let s0 : (z : Int) → z ≃ 0Int → s ⊠ z ≃ 0Int = λ z h. omega (arith, ⊠-cong-r s z 0Int h, ⊠-zero s) in (
        at-origin _ u.under (omega (arith, c0 u.over.x x, s0 u.over.y y)),
        at-origin _ u.under (omega (arith, s0 u.over.x x, c0 u.over.y y)),
      )

  origin-turned-back : (u : Place) → negated_and_turned paper u ≈ origin_place → u ≈ origin_place
  origin-turned-back u (hx, hy) =
      let v = turned c s u.over in
      let x : v.x ≃ 0Int = omega (arith, is-nothing (neg v.x) u.under hx) in
      let y : v.y ≃ 0Int = omega (arith, is-nothing (neg v.y) u.under hy) in
      let X = var 0 :* var 2 :- var 1 :* var 3 in
      let Y = var 1 :* var 2 :+ var 0 :* var 3 in
      let square = var 0 :* var 0 :+ var 1 :* var 1 in
      let ρ : List Int = c ∷ s ∷ u.over.x ∷ u.over.y ∷ [] in
      let c0 : (z : Int) → z ≃ 0Int → c ⊠ z ≃ 0Int = λ z h. omega (arith, ⊠-cong-r c z 0Int h, ⊠-zero c) in
      let s0 : (z : Int) → z ≃ 0Int → s ⊠ z ≃ 0Int = λ z h. omega (arith, ⊠-cong-r s z 0Int h, ⊠-zero s) in (
        at-origin _ u.under
            (omega (arith, c0 v.x x, s0 v.y y, ring (var 0 :* X :+ var 1 :* Y) (var 2 :* square) ρ tt, one-times c s paper.quarter_turn u.over.x)),
        at-origin _ u.under
            (omega (arith, c0 v.y y, s0 v.x x, ring (var 0 :* Y :- var 1 :* X) (var 3 :* square) ρ tt, one-times c s paper.quarter_turn u.over.y)),
      )

pub exchange-turns : ExchangeTurns
exchange-turns bound p a b paper u n = turned-over paper u n

pub exchange : (f : Format) (bound : ℕ) → Room f bound → Exchange f bound
exchange f bound room p q a ra b rb radii radii' pair pair' k k' paper o o' inverse arrays arrays' is is' goes goes' =
    let (_, here) = told _ _ _ _ (demand3 f bound room p a ra b rb radii pair k paper o arrays is goes) in
    let (v, there) =
    told _ _ _ _ (exact-there paper inverse (demand3 f bound room q b rb a ra radii' pair' k' (exchanged-paper paper inverse) o' arrays' is' goes')) in
    let again = told-too _ _ here (turned-over paper v there.nearest) in
    record {
      touches_too = λ e. there.origin_touches (origin-turned-back paper v (again.touching_at_origin e));
      touches_back = λ e. again.origin_touches (origin-turned paper v (there.touching_at_origin e));
      theirs = v;
      told_there = there;
      told_here = again;
    }

-- ---- at the bound of each format
pub exchange-on-squared-paper : (f : Format) → Exchange f (bound_of f)
exchange-on-squared-paper f = exchange f (bound_of f) (room_of f)
