-- Fractions of whole numbers, and places: points of the plane with such parts. Nothing is divided: they are compared by cross-multiplying.
use Rattle.integers.specs.Signed.{Int, ◌⊠◌, ◌≼◌, ◌≺◌, ◌≃◌}
use Rattle.plane.specs.Plane.{Point, dot}

-- the bottom is above 0
pub record Fraction : Type 0 where
  pub top : Int
  pub bottom : Int

infix 5 ◌≤ᶠ◌ ◌<ᶠ◌ ◌≃ᶠ◌ ◌≈◌
abbrev pub ◌≤ᶠ◌ : Fraction → Fraction → Type 0
r ≤ᶠ q = q.bottom ⊠ r.top ≼ r.bottom ⊠ q.top

abbrev pub ◌<ᶠ◌ : Fraction → Fraction → Type 0
r <ᶠ q = q.bottom ⊠ r.top ≺ r.bottom ⊠ q.top

abbrev pub ◌≃ᶠ◌ : Fraction → Fraction → Type 0
r ≃ᶠ q = q.bottom ⊠ r.top ≃ r.bottom ⊠ q.top

-- the point `over`, divided by `under`, which is above 0
pub record Place : Type 0 where
  pub over : Point
  pub under : Int

abbrev pub ◌≈◌ : Place → Place → Type 0
u ≈ v = (v.under ⊠ u.over.x ≃ u.under ⊠ v.over.x) × (v.under ⊠ u.over.y ≃ u.under ⊠ v.over.y)

abbrev pub squared : Place → Fraction
squared u = record { top = dot u.over u.over; bottom = u.under ⊠ u.under }
