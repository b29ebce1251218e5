-- How far one vector turns into another, in either sense; how much further one point lies than another along a direction; and the identities between the two.
-- Assumes nothing.
use mathlib.Core.Path.{refl}
use mathlib.Core.List.{List, [], ◌∷◌}
use native.Mathlib.Omega.{arith}
use Rattle.integers.specs.Signed.{Int, 0Int, ◌⊞◌, ◌⊟◌, ◌⊠◌, ◌≼◌, ◌≺◌, ◌≃◌}
use Rattle.integers.specs.Polynomial.{Expr, var, ◌:+◌, ◌:-◌, ◌:*◌}
use Rattle.integers.proofs.Signed.{⊠-cong}
use Rattle.integers.proofs.Ring.{ring}
use Rattle.plane.specs.Plane.{Point, difference, dot, perp}
use Rattle.exact.proofs.Sketch.{Sketch, differenceᴱ, dotᴱ, perpᴱ, P, Q, R}
use Rattle.round_limit.proofs.Potential.{Equations, Round}

-- ---- the two senses of turning
pub data Sense : Type 0 where
  left right : Sense

abbrev pub other : Sense → Sense
other left = right
other right = left

-- above 0 where b lies to that side of a, by less than half a turn
abbrev pub turn : Sense → Point → Point → Int
turn left a b = perp a b
turn right a b = perp b a

-- how much further a lies than b along d
abbrev pub ahead : Point → Point → Point → Int
ahead d a b = dot d a ⊟ dot d b

abbrev pub turnᴱ : Sense → Sketch → Sketch → Expr
turnᴱ left a b = perpᴱ a b
turnᴱ right a b = perpᴱ b a

abbrev aheadᴱ : Sketch → Sketch → Sketch → Expr
aheadᴱ d a b = dotᴱ d a :- dotᴱ d b

-- three points more
abbrev S : Sketch
S = record { x = var 6; y = var 7 }

abbrev U : Sketch
U = record { x = var 8; y = var 9 }

abbrev W : Sketch
W = record { x = var 10; y = var 11 }

abbrev six : Point → Point → Point → Point → Point → Point → List Int
six p q r s u w = p.x ∷ p.y ∷ q.x ∷ q.y ∷ r.x ∷ r.y ∷ s.x ∷ s.y ∷ u.x ∷ u.y ∷ w.x ∷ w.y ∷ []

pub turn-back : (σ : Sense) (a b : Point) → turn (other σ) b a ≃ turn σ a b
turn-back left a b = refl
turn-back right a b = refl

-- d in terms of da and db
abbrev cramer_l : Sense → Expr
cramer_l σ = turnᴱ σ Q R :* aheadᴱ P S U

abbrev cramer_r : Sense → Expr
cramer_r σ = turnᴱ σ P R :* aheadᴱ Q S U :+ turnᴱ σ Q P :* aheadᴱ R S U

pub cramer : (σ : Sense) (d da db a b : Point) → turn σ da db ⊠ ahead d a b ≃ turn σ d db ⊠ ahead da a b ⊞ turn σ da d ⊠ ahead db a b
cramer left d da db a b = ring (cramer_l left) (cramer_r left) (six d da db a b a) tt
cramer right d da db a b = ring (cramer_l right) (cramer_r right) (six d da db a b a) tt

-- the product of two turns
abbrev lagrange_l : Sense → Expr
lagrange_l σ = turnᴱ σ P Q :* turnᴱ (other σ) (differenceᴱ S R) (differenceᴱ U R)

abbrev lagrange_r : Expr
lagrange_r = aheadᴱ P R S :* aheadᴱ Q U R :- aheadᴱ P R U :* aheadᴱ Q S R

pub lagrange : (σ : Sense) (d e a b q : Point)
    → turn σ d e ⊠ turn (other σ) (difference b a) (difference q a) ≃ ahead d a b ⊠ ahead e q a ⊟ ahead d a q ⊠ ahead e b a
lagrange left d e a b q = ring (lagrange_l left) lagrange_r (six d e a b q a) tt
lagrange right d e a b q = ring (lagrange_l right) lagrange_r (six d e a b q a) tt

pub turn-cong : (σ : Sense) (d e a : Point) → d.x ≃ e.x → d.y ≃ e.y → turn σ d a ≃ turn σ e a
turn-cong left d e a h k = omega (arith, ⊠-cong d.x e.x a.y a.y h refl, ⊠-cong d.y e.y a.x a.x k refl)
turn-cong right d e a h k = omega (arith, ⊠-cong a.x a.x d.y e.y refl k, ⊠-cong a.y a.y d.x e.x refl h)

-- ---- a round: of the points a and b, found along da and db, and a new one q, found along d
abbrev along_l : Sense → Expr
along_l σ = turnᴱ σ R Q :* aheadᴱ P S W :+ turnᴱ σ P Q :* aheadᴱ R W S

abbrev along_r : Sense → Expr
along_r σ = turnᴱ σ P R :* (aheadᴱ Q U S :- aheadᴱ Q U W)

abbrev level_l : Sense → Expr
level_l σ = turnᴱ σ R Q :* aheadᴱ P S U :- turnᴱ σ P R :* aheadᴱ Q U S

abbrev level_r : Sense → Expr
level_r σ = turnᴱ σ P Q :* aheadᴱ R S U

abbrev triangleᴱ : Sense → Expr
triangleᴱ σ = turnᴱ (other σ) (differenceᴱ U S) (differenceᴱ W S)

abbrev before_r : Expr
before_r = aheadᴱ P S U :* aheadᴱ Q U S :- aheadᴱ P S U :* aheadᴱ Q U W :- aheadᴱ Q U S :* aheadᴱ P S W

abbrev after_r : Expr
after_r = aheadᴱ P S U :* aheadᴱ R W S :+ aheadᴱ P S W :* aheadᴱ R S U

module _ (σ : Sense) (a b q da db d : Point) where
  -- the doubled area of the triangle, above 0 where d lies between da and db
  abbrev pub triangle : Int
  triangle = turn (other σ) (difference b a) (difference q a)

  abbrev EquationsOf : Type 0
  EquationsOf =
      Equations (turn σ da db) (turn σ d db) (turn σ da d) (ahead da a b) (ahead db b a) (ahead da a q) (ahead db b q) (ahead d q a) (ahead d a b) triangle

  abbrev pub RoundOf : Type 0
  RoundOf = Round (turn σ da db) (turn σ d db) (turn σ da d) (ahead da a b) (ahead db b a) (ahead da a q) (ahead db b q) (ahead d q a) (ahead d a b) triangle

equations-of : (σ : Sense) (a b q da db d : Point) → EquationsOf σ a b q da db d
equations-of left a b q da db d =
    let ρ = six da db d a b q in
    record {
      along = ring (along_l left) (along_r left) ρ tt;
      level = ring (level_l left) (level_r left) ρ tt;
      area-before = ring (turnᴱ left P Q :* triangleᴱ left) before_r ρ tt;
      area-after = ring (turnᴱ left P R :* triangleᴱ left) after_r ρ tt;
    }
equations-of right a b q da db d =
    let ρ = six da db d a b q in
    record {
      along = ring (along_l right) (along_r right) ρ tt;
      level = ring (level_l right) (level_r right) ρ tt;
      area-before = ring (turnᴱ right P Q :* triangleᴱ right) before_r ρ tt;
      area-after = ring (turnᴱ right P R :* triangleᴱ right) after_r ρ tt;
    }

pub round-of : (σ : Sense) (a b q da db d : Point) → 0Int ≺ turn σ da db → 0Int ≺ turn σ d db → 0Int ≺ turn σ da d
    → 0Int ≺ ahead d q a → 0Int ≼ ahead da a q → 0Int ≼ ahead db b q → 0Int ≼ ahead d a b → RoundOf σ a b q da db d
round-of σ a b q da db d κ α β E A C δ =
    record { κ-pos = κ; α-pos = α; β-pos = β; E_pos = E; A-nonneg = A; C-nonneg = C; δ-nonneg = δ; equations = equations-of σ a b q da db d }
