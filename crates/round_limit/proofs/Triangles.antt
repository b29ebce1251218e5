-- A triangle of three points within the bound has no doubled area above the largest. Assumes nothing.
use mathlib.Core.Path.{◌≡◌, ap, ◌∙◌}
use Prim.Native.Nat.{ℕ, ◌*◌, ◌^◌, ◌<◌}
use native.Mathlib.Nat.{pow-suc, pow-zero, one-mul}
use native.Mathlib.Omega.{arith}
use Rattle.integers.specs.Signed.{Int, of_nat, ◌⊟◌, ◌≺◌}
use Rattle.integers.specs.Whole.{Within}
use Rattle.integers.proofs.Sized.{within-product}
use Rattle.plane.specs.Plane.{Point, difference, perp}
use Rattle.exact.specs.SquaredPaper.{Near}
use Rattle.round_limit.specs.RoundLimit.{largest_area}
use Rattle.round_limit.proofs.Turning.{Sense, left, right, turn}

squared : (n : ℕ) → n ^ 2 ≡ n * n
squared n = pow-suc n 1 ∙ ap (λ (z : ℕ). z * n) (pow-suc n 0 ∙ ap (λ (z : ℕ). z * n) (pow-zero n) ∙ one-mul n)

module _ (bound J : ℕ) (enough : largest_area bound < 4 ^ J) where
  apart : {y z : Int} → Within bound y → Within bound z → Within (2 * bound) (y ⊟ z)
  apart h k = record { upper = omega (arith, h.upper, k.lower); lower = omega (arith, h.lower, k.upper) }

  doubled-area : {u w : Point} → Near (2 * bound) u → Near (2 * bound) w → perp u w ≺ of_nat (4 ^ J)
  doubled-area {u} {w} h k =
      let xy = within-product (2 * bound) (2 * bound) u.x w.y h.x k.y in
      let yx = within-product (2 * bound) (2 * bound) u.y w.x h.y k.x in
      omega (arith, xy.upper, yx.lower, squared bound)

  pub no-larger : (σ : Sense) (a b q : Point) → Near bound a → Near bound b → Near bound q → turn σ (difference b a) (difference q a) ≺ of_nat (4 ^ J)
  no-larger σ a b q h i j = go σ
    where
      from-a : {z : Point} → Near bound z → Near (2 * bound) (difference z a)
      from-a k = record { x = apart k.x h.x; y = apart k.y h.y }

      go : (σ : Sense) → turn σ (difference b a) (difference q a) ≺ of_nat (4 ^ J)
      go left = doubled-area (from-a i) (from-a j)
      go right = doubled-area (from-a j) (from-a i)
