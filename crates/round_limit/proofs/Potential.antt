-- The potential of two points that were found, over plain whole numbers: each round leaves at most a quarter, and it never falls below 1. No geometry.
-- Assumes nothing.
use mathlib.Core.Path.{◌≡◌, refl}
use mathlib.Core.Logic.{◌⊎◌, inl, inr}
use mathlib.Core.List.{[], ◌∷◌}
use Prim.Native.Nat.{ℕ, zero, suc, ◌^◌, ◌≤◌, ◌<◌}
use native.Mathlib.Nat.{pow-suc}
use native.Mathlib.Omega.{arith}
use Rattle.integers.specs.Signed.{Int, 0Int, of_nat, ◌⊞◌, ◌⊟◌, ◌⊠◌, ◌≼◌, ◌≺◌, ◌≃◌}
use Rattle.integers.specs.Polynomial.{var, lit, ◌:+◌, ◌:-◌, ◌:*◌}
use Rattle.integers.proofs.Signed.{le-or-lt, ⊠-comm, ⊠-cong, ⊠-cong-r, ⊠-nonneg, ⊠-pos, ⊠-pos-back, ⊠-nonneg-back, ⊠-square, ⊠-one}
use Rattle.integers.proofs.Ring.{ring}
use Rattle.plane.proofs.Weights.{⊠-mono}

-- ---- factors
pub spread : (k a b : Int) → k ⊠ (a ⊟ b) ≃ k ⊠ a ⊟ k ⊠ b
spread k a b = ring (var 0 :* (var 1 :- var 2)) (var 0 :* var 1 :- var 0 :* var 2) (k ∷ a ∷ b ∷ []) tt

-- a factor of a product above 0, where the other is not negative
pub first-factor : (a b : Int) → 0Int ≼ b → 0Int ≺ a ⊠ b → 0Int ≺ a
first-factor a b h k = ⊠-pos-back b a h (omega (arith, ⊠-comm a b))

-- the order is kept by a factor above 0, and back
times-lt : (k a b : Int) → 0Int ≺ k → a ≺ b → k ⊠ a ≺ k ⊠ b
times-lt k a b h l = omega (arith, ⊠-pos k (b ⊟ a) h (omega arith), spread k b a)

cancel-lt : (k a b : Int) → 0Int ≼ k → k ⊠ a ≺ k ⊠ b → a ≺ b
cancel-lt k a b h l = let p = ⊠-pos-back k (b ⊟ a) h (omega (arith, spread k b a)) in omega arith

-- ---- a round
-- Two points were found, each along its direction, and now a third one along a new direction.
--   κ        how far the first direction turns into the second; α: the new one into the second; β: the first into the new one
--   u, w     how far the first point lies ahead of the second along its own direction, and the second ahead of the first along its own
--   A, C     how far the first and the second lie ahead of the new point, each along its own direction
--   E, δ     how far the new point and the second lie ahead of, and behind, the first along the new direction
--   t        the doubled area of the triangle of all three
-- The potential of the first two is u w / κ; where the new point takes the second's place it is A E / β.
pub record Equations (κ α β u w A C E δ t : Int) : Type 0 where
  pub along : α ⊠ A ⊞ κ ⊠ E ≃ β ⊠ (w ⊟ C)
  pub level : α ⊠ u ⊟ β ⊠ w ≃ κ ⊠ δ
  pub area-before : κ ⊠ t ≃ u ⊠ w ⊟ u ⊠ C ⊟ w ⊠ A
  pub area-after : β ⊠ t ≃ u ⊠ E ⊞ A ⊠ δ

pub record Round (κ α β u w A C E δ t : Int) : Type 0 where
  pub κ-pos : 0Int ≺ κ
  pub α-pos : 0Int ≺ α
  pub β-pos : 0Int ≺ β
  pub E_pos : 0Int ≺ E
  pub A-nonneg : 0Int ≼ A
  pub C-nonneg : 0Int ≼ C
  pub δ-nonneg : 0Int ≼ δ
  pub equations : Equations κ α β u w A C E δ t

module _ {κ α β u w A C E δ t : Int} (r : Round κ α β u w A C E δ t) where
  αA : 0Int ≼ α ⊠ A
  αA = ⊠-nonneg α A (omega (arith, r.α-pos)) r.A-nonneg

  -- α A and κ E together are at most β w
  within : α ⊠ A ⊞ κ ⊠ E ≼ β ⊠ w
  within = omega (arith, r.equations.along, spread β w C, ⊠-nonneg β C (omega (arith, r.β-pos)) r.C-nonneg)

  κE : 0Int ≺ κ ⊠ E
  κE = ⊠-pos κ E r.κ-pos r.E_pos

  w-pos : 0Int ≺ w
  w-pos = ⊠-pos-back β w (omega (arith, r.β-pos)) (omega (arith, αA, κE, within))

  βw : 0Int ≺ β ⊠ w
  βw = ⊠-pos β w r.β-pos w-pos

  κδ : 0Int ≼ κ ⊠ δ
  κδ = ⊠-nonneg κ δ (omega (arith, r.κ-pos)) r.δ-nonneg

  pub u-pos : 0Int ≺ u
  u-pos = ⊠-pos-back α u (omega (arith, r.α-pos)) (omega (arith, βw, κδ, r.equations.level))

  -- the triangle has an area, of at least 1
  t-pos : 0Int ≺ t
  t-pos =
      let Aδ = ⊠-nonneg A δ r.A-nonneg r.δ-nonneg in
      ⊠-pos-back β t (omega (arith, r.β-pos)) (omega (arith, ⊠-pos u E u-pos r.E_pos, Aδ, r.equations.area-after))

  -- so the old potential u w / κ was at least 1
  floor : κ ≼ u ⊠ w
  floor =
      let once : κ ≼ κ ⊠ t = omega (arith, ⊠-mono κ (of_nat 1) t (omega (arith, r.κ-pos)) (omega (arith, t-pos)), ⊠-one κ) in
      omega (arith, once, r.equations.area-before, ⊠-nonneg u C (omega (arith, u-pos)) r.C-nonneg, ⊠-nonneg w A (omega (arith, w-pos)) r.A-nonneg)

  -- the new one A E / β is at most a quarter of it: of two numbers, four times the product is at most the square of the sum
  quarter : of_nat 4 ⊠ (κ ⊠ (A ⊠ E)) ≼ β ⊠ (u ⊠ w)
  quarter =
      let x = α ⊠ A in
      let y = κ ⊠ E in
      let s = x ⊞ y in
      let two-squares : of_nat 4 ⊠ (x ⊠ y) ≼ s ⊠ s =
      omega (
        arith,
        ⊠-square (x ⊟ y),
        ring ((var 0 :- var 1) :* (var 0 :- var 1)) ((var 0 :+ var 1) :* (var 0 :+ var 1) :- lit (of_nat 4) :* (var 0 :* var 1)) (x ∷ y ∷ []) tt,
      ) in
      let up : s ⊠ s ≼ s ⊠ (β ⊠ w) = ⊠-mono s s (β ⊠ w) (omega (arith, αA, κE)) within in
      let on : β ⊠ w ⊠ s ≼ β ⊠ w ⊠ (α ⊠ u) = ⊠-mono (β ⊠ w) s (α ⊠ u) (omega (arith, βw)) (omega (arith, within, r.equations.level, κδ)) in
      let all : 0Int ≼ α ⊠ (β ⊠ (u ⊠ w) ⊟ of_nat 4 ⊠ (κ ⊠ (A ⊠ E))) =
      omega (
        arith,
        two-squares,
        up,
        on,
        ⊠-comm s (β ⊠ w),
        ring (var 0 :* (var 2 :* (var 3 :* var 4) :- lit (of_nat 4) :* (var 1 :* (var 5 :* var 6))))
            (var 2 :* var 4 :* (var 0 :* var 3) :- lit (of_nat 4) :* (var 0 :* var 5 :* (var 1 :* var 6)))
            (α ∷ κ ∷ β ∷ u ∷ w ∷ A ∷ E ∷ []) tt,
      ) in
      let back = ⊠-nonneg-back α (β ⊠ (u ⊠ w) ⊟ of_nat 4 ⊠ (κ ⊠ (A ⊠ E))) r.α-pos all in
      omega (arith, back)

  -- and at most the triangle's doubled area
  in-triangle : A ⊠ E ≼ β ⊠ t
  in-triangle =
      let less = ⊠-nonneg-back α (u ⊟ A) r.α-pos (omega (arith, within, κE, r.equations.level, κδ, spread α u A)) in
      let A≤u : A ≼ u = omega (arith, less) in
      omega (arith, ⊠-mono E A u (omega (arith, r.E_pos)) A≤u, ⊠-comm E A, ⊠-comm E u, r.equations.area-after, ⊠-nonneg A δ r.A-nonneg r.δ-nonneg)

-- ---- the level of a potential: from J down it says that the potential is below 4 ^ g, above J it says nothing
pub record Below (J g : ℕ) (u w κ : Int) : Type 0 where
  pub holds : g ≤ J → u ⊠ w ≺ of_nat (4 ^ g) ⊠ κ

module _ {κ α β u w A C E δ t : Int} (r : Round κ α β u w A C E δ t) (J : ℕ) (small : t ≺ of_nat (4 ^ J)) where
  -- whatever the old potential was, the new one is at most the triangle's doubled area
  first : A ⊠ E ≺ of_nat (4 ^ J) ⊠ β
  first = omega (arith, in-triangle r, times-lt β t (of_nat (4 ^ J)) r.β-pos small, ⊠-comm β (of_nat (4 ^ J)))

  -- and a quarter of it
  fourth : (g : ℕ) → u ⊠ w ≺ of_nat (4 ^ suc g) ⊠ κ → A ⊠ E ≺ of_nat (4 ^ g) ⊠ β
  fourth g h =
      let k = of_nat 4 ⊠ κ in
      let p = of_nat (4 ^ g) in
      let four : of_nat (4 ^ suc g) ≃ of_nat 4 ⊠ p = omega (arith, pow-suc 4 g, ⊠-four p) in
      let up : β ⊠ (u ⊠ w) ≺ β ⊠ (of_nat (4 ^ suc g) ⊠ κ) = times-lt β (u ⊠ w) (of_nat (4 ^ suc g) ⊠ κ) r.β-pos h in
      let same : β ⊠ (of_nat (4 ^ suc g) ⊠ κ) ≃ β ⊠ (of_nat 4 ⊠ p ⊠ κ) =
      ⊠-cong-r β (of_nat (4 ^ suc g) ⊠ κ) (of_nat 4 ⊠ p ⊠ κ) (⊠-cong (of_nat (4 ^ suc g)) (of_nat 4 ⊠ p) κ κ four refl) in
      cancel-lt k (A ⊠ E) (p ⊠ β) (⊠-nonneg (of_nat 4) κ (omega arith) (omega (arith, r.κ-pos))) (omega (
        arith,
        quarter r,
        up,
        same,
        ring (lit (of_nat 4) :* var 0 :* (var 1 :* var 2)) (lit (of_nat 4) :* (var 0 :* (var 1 :* var 2))) (κ ∷ A ∷ E ∷ []) tt,
        ring (lit (of_nat 4) :* var 0 :* (var 1 :* var 2)) (var 2 :* (lit (of_nat 4) :* var 1 :* var 0)) (κ ∷ p ∷ β ∷ []) tt,
      ))
    where
      ⊠-four : (z : Int) → of_nat 4 ⊠ z ≃ z ⊞ z ⊞ z ⊞ z
      ⊠-four z = ring (lit (of_nat 4) :* var 0) (var 0 :+ var 0 :+ var 0 :+ var 0) (z ∷ []) tt

  -- a round takes the level down by one, and there is none from level 0
  pub descend : (g : ℕ) → Below J g u w κ → (g' : ℕ) × (g ≡ suc g') × Below J g' A E β
  descend zero h = absurd (clash (h.holds (omega arith)))
    where
      clash : u ⊠ w ≺ of_nat 1 ⊠ κ → ⊥
      clash l = omega (arith, floor r, ring (lit (of_nat 1) :* var 0) (var 0) (κ ∷ []) tt)
  descend (suc g) h = (g, refl, record { holds = go (le-or-lt (suc g) J) })
    where
      go : (suc g ≤ J) ⊎ (J < suc g) → g ≤ J → A ⊠ E ≺ of_nat (4 ^ g) ⊠ β
      go (inl l) below = fourth g (h.holds l)
      go (inr l) below = let e : J ≡ g = omega arith in rw (← e) first
