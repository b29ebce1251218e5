-- The ground operations on vectors of whole numbers of bounded size are those of the plane. Assumes nothing.
use mathlib.Core.Path.{refl}
use mathlib.Core.Bool.{false}
use Prim.Native.Nat.{ℕ, ◌+◌, ◌*◌}
use lib.Dec.{T, leb}
use lib.Ieee.{Float, Format, binary32, binary64, of_bits}
use native.Mathlib.Omega.{arith}
use Rattle.integers.specs.Signed.{Int, 0Int, ◌≃◌}
use Rattle.integers.specs.Whole.{IsWhole, Sized}
use Rattle.integers.proofs.Sized.{weaken, neg-sized, add-sized, sub-sized, mul-sized}
use Rattle.model.specs.declared.Vector.{Vector}
use Rattle.model.specs.Ground.{plus, minus, negate}
use Rattle.model.specs.Ground as Ground
use Rattle.plane.specs.Plane.{Point, sum, difference, opposite, dot, perp}
use Rattle.exact.specs.SquaredPaper.{Room}

-- v is the point z, whose parts are at most c * bound ^ k in size
pub record SizedPoint (bound : ℕ) (v : Vector) (z : Point) (c k : ℕ) : Type 0 where
  pub x : Sized bound v.x z.x c k
  pub y : Sized bound v.y z.y c k

pub zero-whole : (f : Format) → IsWhole (Ground.zero f) 0Int
unfolding of_bits
zero-whole binary32 = record { sign = false; size = 0; value = (refl, refl); same = refl }
zero-whole binary64 = record { sign = false; size = 0; value = (refl, refl); same = refl }

pub whole-of-equal : {x : Float} {y z : Int} → IsWhole x y → y ≃ z → IsWhole x z
whole-of-equal {x} {y} {z} i e = record { sign = i.sign; size = i.size; value = i.value; same = omega (arith, i.same) }

module _ (f : Format) (bound : ℕ) (room : Room f bound) where
  pub weaken-point : {v : Vector} {z : Point} {c k : ℕ} (c' k' : ℕ) → SizedPoint bound v z c k → T (leb c c') → T (leb k k') → SizedPoint bound v z c' k'
  weaken-point c' k' i h l = record { x = weaken f bound room.0 room.1 c' k' i.x h l; y = weaken f bound room.0 room.1 c' k' i.y h l }

  pub negate-sized : {v : Vector} {z : Point} {c k : ℕ} → SizedPoint bound v z c k → SizedPoint bound (negate v) (opposite z) c k
  negate-sized i = record { x = neg-sized f bound room.0 room.1 i.x; y = neg-sized f bound room.0 room.1 i.y }

  module _ {v w : Vector} {y z : Point} {c c' : ℕ} where
    pub minus-sized : {k : ℕ} → SizedPoint bound v y c k → SizedPoint bound w z c' k → T (leb (c + c') 256) → T (leb k 4)
        → SizedPoint bound (minus f v w) (difference y z) (c + c') k
    minus-sized i j h l = record { x = sub-sized f bound room.0 room.1 i.x j.x h l; y = sub-sized f bound room.0 room.1 i.y j.y h l }

    pub plus-sized : {k : ℕ} → SizedPoint bound v y c k → SizedPoint bound w z c' k → T (leb (c + c') 256) → T (leb k 4)
        → SizedPoint bound (plus f v w) (sum y z) (c + c') k
    plus-sized i j h l = record { x = add-sized f bound room.0 room.1 i.x j.x h l; y = add-sized f bound room.0 room.1 i.y j.y h l }

    pub dot-sized : {k k' : ℕ} → SizedPoint bound v y c k → SizedPoint bound w z c' k' → T (leb (c * c') 256) → T (leb (c * c' + c * c') 256)
        → T (leb (k + k') 4)
        → Sized bound (Ground.dot f v w) (dot y z) (c * c' + c * c') (k + k')
    dot-sized i j g h l =
        add-sized f bound room.0 room.1 (mul-sized f bound room.0 room.1 i.x j.x g l)
        (mul-sized f bound room.0 room.1 i.y j.y g l) h l

    pub perp_dot-sized : {k k' : ℕ} → SizedPoint bound v y c k → SizedPoint bound w z c' k' → T (leb (c * c') 256) → T (leb (c * c' + c * c') 256)
        → T (leb (k + k') 4)
        → Sized bound (Ground.perp_dot f v w) (perp y z) (c * c' + c * c') (k + k')
    perp_dot-sized i j g h l =
        sub-sized f bound room.0 room.1 (mul-sized f bound room.0 room.1 i.x j.y g l)
        (mul-sized f bound room.0 room.1 i.y j.x g l) h l
