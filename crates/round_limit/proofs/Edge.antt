-- What a solve tells of the vertex or the edge that it kept, and of the direction across it, over whole numbers. Assumes nothing.
use mathlib.Core.Logic.{◌⊎◌, inl, inr}
use Prim.Native.Nat.{◌≤◌, ◌<◌}
use native.Mathlib.Omega.{arith}
use Rattle.integers.specs.Signed.{Int, 0Int, of_nat, neg, ◌⊞◌, ◌⊟◌, ◌⊠◌, ◌≼◌, ◌≺◌, ◌≃◌}
use Rattle.integers.specs.Polynomial.{Expr, lit, ◌:+◌, ◌:-◌, ◌:*◌, negated}
use Rattle.integers.proofs.Signed.{le-or-lt, ⊠-nonneg, ⊠-pos, ⊠-square}
use Rattle.integers.proofs.Ring.{ring}
use Rattle.plane.specs.Plane.{Point, difference, opposite, dot, perp}
use Rattle.exact.specs.Regions.{toward, across}
use Rattle.exact.proofs.Sketch.{Sketch, differenceᴱ, dotᴱ, perpᴱ, towardᴱ, acrossᴱ, off_edgeᴱ, P, Q, R, parts}
use Rattle.exact.proofs.Kept.{dot-cong, off_edge, off-either-way, ends-level}
use Rattle.round_limit.proofs.Potential.{first-factor}
use Rattle.round_limit.proofs.Turning.{Sense, left, right, turn, ahead, turnᴱ, turn-cong, lagrange}
use Rattle.round_limit.proofs.Between.{none-times, times_none, Between, between-by}

abbrev oppositeᴱ : Sketch → Sketch
oppositeᴱ a = record { x = negated a.x; y = negated a.y }

-- ---- a vertex
pub toward-ahead : (x y : Point) → toward x y ≃ ahead x x y
toward-ahead x y = ring (towardᴱ P Q) (dotᴱ P P :- dotᴱ P Q) (parts x y x) tt

-- off the vertex x: what lies ahead of x
pub ahead-off-vertex : (x y : Point) → ahead (opposite x) y x ≃ toward x y
ahead-off-vertex x y = ring (dotᴱ (oppositeᴱ P) Q :- dotᴱ (oppositeᴱ P) P) (towardᴱ P Q) (parts x y x) tt

-- the way from x to q and back adds up to a square, so if the origin is not ahead of q on the way to x, it is not behind x on the way to q
pub not-both-behind : (x q : Point) → toward q x ≼ 0Int → 0Int ≼ ahead x x q
not-both-behind x q h =
    let v = differenceᴱ P Q in
    omega (arith, toward-ahead x q, ⊠-square (x.x ⊟ q.x), ⊠-square (x.y ⊟ q.y), ring (dotᴱ v v) (towardᴱ P Q :+ towardᴱ Q P) (parts x q x) tt)

-- the angle between q and x is less than a right one
pub faces : (x q : Point) → toward q x ≼ 0Int → dot q q ≼ dot x q
faces x q h = omega (arith, ring (towardᴱ Q P) (dotᴱ Q Q :- dotᴱ P Q) (parts x q x) tt)

pub below-vertex : (x q : Point) → toward q x ≼ 0Int → 0Int ≺ dot q q → dot (opposite x) q ≺ 0Int
below-vertex x q h some = omega (arith, faces x q h, ring (dotᴱ (oppositeᴱ P) Q) (negated (dotᴱ P Q)) (parts x q x) tt)

-- ---- an edge from x to y, and the direction e across it, toward the origin
pub record Edge (e x y : Point) : Type 0 where
  pub same-x : e.x ≃ (off_edge x y).x
  pub same-y : e.y ≃ (off_edge x y).y
  pub ahead-of-x : 0Int ≺ toward x y
  pub ahead-of-y : 0Int ≺ toward y x

module _ {e x y : Point} (k : Edge e x y) where
  pub edge-back : Edge e y x
  edge-back =
      let same = off-either-way x y in
      record { same-x = omega (arith, k.same-x, same.0); same-y = omega (arith, k.same-y, same.1); ahead-of-x = k.ahead-of-y; ahead-of-y = k.ahead-of-x }

  edge-dot : (z : Point) → dot e z ≃ dot (off_edge x y) z
  edge-dot z = dot-cong e (off_edge x y) z k.same-x k.same-y

  -- both ends lie equally far
  pub edge-level : ahead e x y ≃ 0Int
  edge-level = omega (arith, edge-dot x, edge-dot y, ends-level x y)

  edge-across : (q : Point) → ahead e q x ≃ across x y q ⊞ across x y q
  edge-across q =
      let d = off_edgeᴱ P Q in
      omega (arith, edge-dot x, edge-dot q, ring (dotᴱ d R :- dotᴱ d P) (acrossᴱ P Q R :+ acrossᴱ P Q R) (parts x y q) tt)

  -- what lies further than the edge lies on the origin's side of it
  pub edge-side : (q : Point) → 0Int ≺ ahead e q x → 0Int ≺ across x y q
  edge-side q h = omega (arith, edge-across q)

  -- what lies no further does not
  pub edge-not-side : (q : Point) → ahead e q x ≼ 0Int → across x y q ≼ 0Int
  edge-not-side q h = omega (arith, edge-across q)

  -- e is the opposite of a sum of both ends by weights above 0, so a point that faces both ends lies behind the origin along e
  pub below-edge : (q : Point) → toward q x ≼ 0Int → toward q y ≼ 0Int → 0Int ≺ dot q q → dot e q ≺ 0Int
  below-edge q h i some =
      let m = toward y x in
      let n = toward x y in
      let mean = towardᴱ Q P :* dotᴱ P R :+ towardᴱ P Q :* dotᴱ Q R in
      omega (
        arith,
        edge-dot q,
        ring (dotᴱ (off_edgeᴱ P Q) R) (negated (mean :+ mean)) (parts x y q) tt,
        ⊠-pos m (dot x q) k.ahead-of-y (omega (arith, faces x q h)),
        ⊠-pos n (dot y q) k.ahead-of-x (omega (arith, faces y q i)),
      )

-- ---- the sense of a turn that is not 0
pub sense-of : (v w : Point) → (perp v w ≃ 0Int → ⊥) → (σ : Sense) × (0Int ≺ turn σ v w)
sense-of v w some = go (le-or-lt t.plus t.minus) (le-or-lt t.minus t.plus)
  where
    t : Int
    t = perp v w

    go : (t.plus ≤ t.minus) ⊎ (t.minus < t.plus) → (t.minus ≤ t.plus) ⊎ (t.plus < t.minus) → (σ : Sense) × (0Int ≺ turn σ v w)
    go (inr h) i = (left, omega arith)
    go (inl h) (inl i) = absurd (some (omega arith))
    go (inl h) (inr i) = (right, omega (arith, ring (perpᴱ Q P) (negated (perpᴱ P Q)) (parts v w v) tt))

-- along e, across the edge from x to y, q lies further: then e does not point to x or away from it
pub edge-turns : {e x y : Point} (q : Point) → Edge e x y → 0Int ≺ ahead e q x → (σ : Sense) × (0Int ≺ turn σ x e)
edge-turns {e} {x} {y} q k h = sense-of x e (λ (z : perp x e ≃ 0Int). clash z)
  where
    clash : perp x e ≃ 0Int → ⊥
    clash z =
        omega (
          arith,
          lagrange left x e x y q,
          none-times (perp x e) (turn right (difference y x) (difference q x)) z,
          ⊠-pos (ahead x x y) (ahead e q x) (omega (arith, toward-ahead x y, k.ahead-of-x)) h,
          times_none (ahead x x q) (ahead e y x) (omega (arith, edge-level k)),
        )

-- ---- off a vertex a
abbrev bothᴱ : Sense → Expr
bothᴱ σ = turnᴱ σ R P :* turnᴱ σ Q (oppositeᴱ P)

abbrev facingᴱ : Expr
facingᴱ = negated (dotᴱ Q P) :* (dotᴱ (oppositeᴱ P) R :- dotᴱ (oppositeᴱ P) P) :+ (dotᴱ Q P :- dotᴱ Q R) :* dotᴱ P P

both-turns : (σ : Sense) (a da q : Point) → turn σ q a ⊠ turn σ da (opposite a) ≃ neg (dot da a) ⊠ ahead (opposite a) q a ⊞ ahead da a q ⊠ dot a a
both-turns left a da q = ring (bothᴱ left) facingᴱ (parts a da q) tt
both-turns right a da q = ring (bothᴱ right) facingᴱ (parts a da q) tt

turn-opposite : (σ : Sense) (a q : Point) → turn σ (opposite q) (opposite a) ≃ turn σ q a
turn-opposite left a q = ring (perpᴱ (oppositeᴱ Q) (oppositeᴱ P)) (perpᴱ Q P) (parts a q a) tt
turn-opposite right a q = ring (perpᴱ (oppositeᴱ P) (oppositeᴱ Q)) (perpᴱ P Q) (parts a q a) tt

turn-off-edge : (σ : Sense) (a q : Point) → turn σ (off_edge a q) (opposite a) ≃ of_nat 2 ⊠ (toward a q ⊠ turn σ q a)
turn-off-edge left a q = ring (perpᴱ (off_edgeᴱ P Q) (oppositeᴱ P)) (lit (of_nat 2) :* (towardᴱ P Q :* perpᴱ Q P)) (parts a q a) tt
turn-off-edge right a q = ring (perpᴱ (oppositeᴱ P) (off_edgeᴱ P Q)) (lit (of_nat 2) :* (towardᴱ P Q :* perpᴱ P Q)) (parts a q a) tt

-- a was found along da, with the origin beyond it, and q off a
module _ (a da q : Point) (low : dot da a ≺ 0Int) (A : 0Int ≼ ahead da a q) (E : 0Int ≺ ahead (opposite a) q a) where
  turns : (σ : Sense) → 0Int ≺ turn σ q a ⊠ turn σ da (opposite a)
  turns σ =
      omega (
        arith,
        both-turns σ a da q,
        ⊠-pos (neg (dot da a)) (ahead (opposite a) q a) (omega arith) E,
        ⊠-nonneg (ahead da a q) (dot a a) A (omega (arith, ⊠-square a.x, ⊠-square a.y)),
      )

  -- so da does not point to a or away from it
  pub vertex-turns : (σ : Sense) × (0Int ≺ turn σ da (opposite a))
  vertex-turns = sense-of da (opposite a) (λ (z : perp da (opposite a) ≃ 0Int). clash z)
    where
      clash : perp da (opposite a) ≃ 0Int → ⊥
      clash z = omega (arith, turns left, times_none (perp q a) (perp da (opposite a)) z)

  -- and the direction off q, or off the edge from a to q, lies between da and the direction off a
  module _ (σ : Sense) (apart : 0Int ≺ turn σ da (opposite a)) where
    q-turns : 0Int ≺ turn σ q a
    q-turns = first-factor (turn σ q a) (turn σ da (opposite a)) (omega arith) (turns σ)

    pub between-off-vertex : 0Int ≼ ahead (opposite q) q a → Between σ da (opposite q) (opposite a)
    between-off-vertex beyond = between-by σ a q da (opposite a) (opposite q) apart A E (omega (arith, q-turns, turn-opposite σ a q)) beyond

    pub between-off-edge : {e : Point} → Edge e a q → Between σ da e (opposite a)
    between-off-edge {e} k =
        let t = ⊠-pos (toward a q) (turn σ q a) k.ahead-of-x q-turns in
        let same = turn-cong σ e (off_edge a q) (opposite a) k.same-x k.same-y in
        let twice = ⊠-nonneg (of_nat 2) (toward a q ⊠ turn σ q a) (omega arith) (omega (arith, t)) in
        between-by σ a q da (opposite a) e apart A E (omega (arith, same, turn-off-edge σ a q, twice)) (omega (arith, edge-level k))
