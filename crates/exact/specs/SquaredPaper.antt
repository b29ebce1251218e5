-- Demand 3. On squared paper, a call that is answered and does not end at the round limit ends touching exactly when the outlines share a point,
-- and otherwise the corners in the returned cache span a nearest place. The radii are free, and so is the cache that came, if it is not refused.
use Rattle.std.specs.Prelude.{◌≡◌, Bool, false, List, ℕ, ◌*◌, ◌/◌, ◌%◌, ◌^◌, ◌≤◌, ◌<◌, length, Float, Ok}
use Rattle.std.specs.Float.{Format, binary32, binary64}
use Rattle.std.specs.Float.Ieee.{prec}
use Rattle.integers.specs.Signed.{Int, of_nat, ◌⊞◌, ◌⊠◌, ◌≃◌}
use Rattle.integers.specs.Whole.{IsWhole, Within}
use Rattle.model.specs.declared.Vector.{Vector}
use Rattle.model.specs.declared.Pose.{Pose}
use Rattle.model.specs.declared.SimplexCache.{SimplexCache}
use Rattle.model.specs.declared.Ending.{Ending}
use Rattle.model.specs.declared.Ending.TheVariants.{Touching, RoundLimit}
use Rattle.model.specs.declared.ProxyDistanceOutput.{ProxyDistanceOutput}
use Rattle.model.specs.Domain.{bad_radius, cache_refusal}
use Rattle.model.specs.Support.{point}
use Rattle.model.specs.Distance.{proxy_distance}
use Rattle.plane.specs.Plane.{Point, sum, difference, turned}
use Rattle.plane.specs.Outline.{Outline}
use Rattle.exact.specs.Shared.{SharesPoint, SpansNearestPlace}

-- a vector of whole numbers
pub record IsPoint (v : Vector) (z : Point) : Type 0 where
  pub x : IsWhole v.x z.x
  pub y : IsWhole v.y z.y

-- at most bound in size, on each axis
pub record Near (bound : ℕ) (z : Point) : Type 0 where
  pub x : Within bound z.x
  pub y : Within bound z.y

-- ---- the inputs
-- Whole-number points, a pose of quarter-turns with a whole shift, and every point of A within the bound of every posed point of B on each axis.
pub record SquaredPaper (bound : ℕ) (p : Pose) (a b : List Float) : Type 0 where
  pub corner_a : ℕ → Point
  pub corner_b : ℕ → Point
  pub cosine : Int
  pub sine : Int
  pub shift : Point
  pub whole_a : (i : ℕ) → i < length a / 2 → IsPoint (point a i) (corner_a i)
  pub whole_b : (j : ℕ) → j < length b / 2 → IsPoint (point b j) (corner_b j)
  pub whole_cosine : IsWhole p.rotation.c cosine
  pub whole_sine : IsWhole p.rotation.s sine
  pub quarter_turn : cosine ⊠ cosine ⊞ sine ⊠ sine ≃ of_nat 1
  pub whole_shift : IsPoint p.translation shift
  pub near : (i j : ℕ) → i < length a / 2 → j < length b / 2 → Near bound (difference (corner_a i) (sum (turned cosine sine (corner_b j)) shift))

module _ {bound : ℕ} {p : Pose} {a b : List Float} (paper : SquaredPaper bound p a b) where
  abbrev pub outline_a : Outline
  outline_a = record { count = length a / 2; corner = paper.corner_a }

  abbrev pub posed_b : Outline
  posed_b = record { count = length b / 2; corner = λ j. sum (turned paper.cosine paper.sine (paper.corner_b j)) paper.shift }

-- a cache is a number, a count and two arrays of three
pub record IsCache (c : SimplexCache) : Type 0 where
  pub a : length c.index_a ≡ 3
  pub b : length c.index_b ≡ 3

-- ---- the domain: 1 to 64 points, nothing above 1,048,576 in size, and good radii
pub record Fits (s : List Float) : Type 0 where
  pub even : length s % 2 ≡ 0
  pub some : 0 < length s
  pub few : length s ≤ 128

pub record InTheDomain (f : Format) {bound : ℕ} {p : Pose} {a b : List Float} (paper : SquaredPaper bound p a b) (ra rb : Float) : Type 0 where
  pub points_a : Fits a
  pub points_b : Fits b
  pub near_a : (i : ℕ) → i < length a / 2 → Near 1048576 (paper.corner_a i)
  pub near_b : (j : ℕ) → j < length b / 2 → Near 1048576 (paper.corner_b j)
  pub radii : (bad_radius f ra ≡ false) × (bad_radius f rb ≡ false)
  pub near_shift : Near 1048576 paper.shift

-- ---- the claim
-- the room that a format has for whole numbers: no value of the call passes 256 * bound ^ 4
abbrev pub Room : Format → ℕ → Type 0
Room f bound = (1 ≤ bound) × (256 * bound ^ 4 ≤ 2 ^ prec f)

-- a bound for each format that leaves that room
abbrev pub bound_of : Format → ℕ
bound_of binary32 = 16
bound_of binary64 = 2048

pub record Exact (a b : Outline) (ending : Ending) (c : SimplexCache) : Type 0 where
  pub touching_shares : ending ≡ Touching → SharesPoint a b
  pub sharing_touches : SharesPoint a b → ending ≡ Touching
  pub otherwise_nearest : (ending ≡ Touching → ⊥) → SpansNearestPlace a b c

-- of every call that is answered and does not end at the round limit, whatever the radii and the cache that came, which was then not refused
abbrev pub Demand3 : Format → ℕ → Type 0
Demand3 f bound =
    (p : Pose) (a : List Float) (ra : Float) (b : List Float) (rb : Float) (radii : Bool) (pair : ℕ) (c : SimplexCache)
    (paper : SquaredPaper bound p a b) (o : ProxyDistanceOutput)
    → IsCache c → (proxy_distance f p a ra b rb radii pair c).answer ≡ Ok o → (o.ending ≡ RoundLimit → ⊥)
    → Exact (outline_a paper) (posed_b paper) o.ending (proxy_distance f p a ra b rb radii pair c).cache

-- the other half: a call with its inputs in the domain is answered, from any cache that is not refused for the pair's number
abbrev pub Answered : Format → ℕ → Type 0
Answered f bound =
    (p : Pose) (a : List Float) (ra : Float) (b : List Float) (rb : Float) (radii : Bool) (pair : ℕ) (c : SimplexCache) (paper : SquaredPaper bound p a b)
    → InTheDomain f paper ra rb → cache_refusal pair c ≡ 0 → (o : ProxyDistanceOutput) × ((proxy_distance f p a ra b rb radii pair c).answer ≡ Ok o)
