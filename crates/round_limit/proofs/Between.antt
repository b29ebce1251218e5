-- The next direction lies between the directions that certified the two points of a pair. Assumes nothing.
use mathlib.Core.Logic.{◌⊎◌, inl, inr}
use mathlib.Core.List.{[], ◌∷◌}
use Prim.Native.Nat.{◌≤◌, ◌<◌}
use native.Mathlib.Omega.{arith}
use Rattle.integers.specs.Signed.{Int, 0Int, neg, ◌⊠◌, ◌≼◌, ◌≺◌, ◌≃◌}
use Rattle.integers.specs.Polynomial.{var, ◌:-◌, ◌:*◌, negated}
use Rattle.integers.proofs.Signed.{le-or-lt, ⊠-comm, ⊠-zero, ⊠-cong-r, ⊠-neg, ⊠-nonneg, ⊠-pos, ⊠-pos-back, ⊠-nonneg-back}
use Rattle.integers.proofs.Ring.{ring}
use Rattle.plane.specs.Plane.{Point, dot}
use Rattle.round_limit.proofs.Potential.{first-factor}
use Rattle.round_limit.proofs.Turning.{Sense, left, right, other, turn, ahead, cramer}

-- nothing times anything
pub none-times : (z a : Int) → z ≃ 0Int → z ⊠ a ≃ 0Int
none-times z a h = omega (arith, ⊠-cong-r a z 0Int h, ⊠-zero a, ⊠-comm z a)

pub times_none : (a z : Int) → z ≃ 0Int → a ⊠ z ≃ 0Int
times_none a z h = omega (arith, ⊠-cong-r a z 0Int h, ⊠-zero a)

-- a factor that is not negative times one that is not above 0
not-above : (a b : Int) → 0Int ≼ a → 0Int ≼ neg b → a ⊠ b ≼ 0Int
not-above a b h k = omega (arith, ⊠-nonneg a (neg b) h k, ⊠-neg a b)

-- ---- d lies between da and db, by the sense σ: properly, or at an end
pub record Between (σ : Sense) (da d db : Point) : Type 0 where
  pub apart : 0Int ≺ turn σ da db
  pub before : 0Int ≼ turn σ d db
  pub after : 0Int ≼ turn σ da d

pub record Properly (σ : Sense) (da d db : Point) : Type 0 where
  pub apart : 0Int ≺ turn σ da db
  pub before : 0Int ≺ turn σ d db
  pub after : 0Int ≺ turn σ da d

-- seen from the other end
pub between-back : (σ : Sense) (da d db : Point) → Between σ da d db → Between (other σ) db d da
between-back left da d db h = record { apart = h.apart; before = h.after; after = h.before }
between-back right da d db h = record { apart = h.apart; before = h.after; after = h.before }

-- Both ends were certified by points that lie no further along d than a, so along d a point q beyond a would not be found if d lay at an end.
pub properly : (σ : Sense) (a b q da db d : Point) → Between σ da d db → 0Int ≼ ahead da a q → 0Int ≼ ahead db b q → 0Int ≼ ahead d a b → 0Int ≺ ahead d q a
    → Properly σ da d db
properly σ a b q da db d h A C δ E =
    let κ = turn σ da db in
    let α = turn σ d db in
    let β = turn σ da d in
    let from-b : 0Int ≺ α ⊠ ahead da q b =
    omega (arith, cramer σ d da db q b, ⊠-pos κ (ahead d q b) h.apart (omega arith), not-above β (ahead db q b) h.after (omega arith)) in
    let from-a : 0Int ≺ β ⊠ ahead db q a =
    omega (arith, cramer σ d da db q a, ⊠-pos κ (ahead d q a) h.apart E, not-above α (ahead da q a) h.before (omega arith)) in
    record { apart = h.apart; before = positive α (ahead da q b) h.before from-b; after = positive β (ahead db q a) h.after from-a }
  where
    -- a factor that is not negative, of a product above 0
    positive : (x y : Int) → 0Int ≼ x → 0Int ≺ x ⊠ y → 0Int ≺ x
    positive x y i j = first-factor x y (omega (arith, ⊠-pos-back x y i j)) j

-- a was found along da and q along d: a next direction e that turns to d from da's side, and along which q lies no less far than a, lies between the two
pub between-by : (σ : Sense) (a q da d e : Point) → 0Int ≺ turn σ da d → 0Int ≼ ahead da a q → 0Int ≺ ahead d q a → 0Int ≼ turn σ e d → 0Int ≼ ahead e q a
    → Between σ da e d
between-by σ a q da d e apart A E toward beyond =
    let back =
    ⊠-nonneg-back (ahead d q a) (turn σ da e) E (omega (
      arith,
      cramer σ e da d q a,
      ⊠-nonneg (turn σ da d) (ahead e q a) (omega arith) beyond,
      not-above (turn σ e d) (ahead da q a) toward (omega arith),
      ⊠-comm (turn σ da e) (ahead d q a),
    )) in
    record { apart = apart; before = toward; after = back }

-- d stands across the edge from a to b: along e, q lies no less far than a, and a no less far than b
module _ (σ : Sense) (a b q da d e : Point) (apart : 0Int ≺ turn σ da d) (flat : ahead d a b ≃ 0Int)
    (u : 0Int ≺ ahead da a b) (A : 0Int ≼ ahead da a q) (E : 0Int ≺ ahead d q a) (behind : 0Int ≼ ahead e a b) (beyond : 0Int ≼ ahead e q a) where
  abbrev α : Int
  α = turn σ e d

  abbrev β : Int
  β = turn σ da e

  toward-d : 0Int ≼ α
  toward-d =
      ⊠-nonneg-back (ahead da a b) α u (omega (
        arith,
        cramer σ e da d a b,
        ⊠-nonneg (turn σ da d) (ahead e a b) (omega arith) behind,
        times_none β (ahead d a b) flat,
        ⊠-comm α (ahead da a b),
      ))

  pub next-between : Between σ da e d
  next-between = between-by σ a q da d e apart A E toward-d beyond

  -- properly, if e stands across the edge from a to q, and q lies less far than a along da
  pub next-properly : ahead e q a ≃ 0Int → 0Int ≺ ahead da a q → 0Int ≺ dot e e → Properly σ da e d
  next-properly level less some = go (le-or-lt α.plus α.minus)
    where
      balance : β ⊠ ahead d q a ≃ α ⊠ ahead da a q
      balance = omega (
        arith,
        cramer σ e da d q a,
        times_none (turn σ da d) (ahead e q a) level,
        ring (var 0 :* (var 1 :- var 2)) (negated (var 0 :* (var 2 :- var 1))) (α ∷ dot da q ∷ dot da a ∷ []) tt,
      )

      nowhere : Point
      nowhere = record { x = 0Int; y = 0Int }

      go : (α.plus ≤ α.minus) ⊎ (α.minus < α.plus) → Properly σ da e d
      go (inr l) =
          let αA = ⊠-pos α (ahead da a q) (omega arith) less in
          record { apart = apart; before = omega arith; after = first-factor β (ahead d q a) (omega arith) (omega (arith, balance, αA)) }
      go (inl l) =
          let no-α : α ≃ 0Int = omega (arith, toward-d) in
          let none : β ⊠ ahead d q a ≃ 0Int = omega (arith, balance, none-times α (ahead da a q) no-α) in
          let no-β : β ≃ 0Int = zero-factor β none in
          let bad : ⊥ = omega (
            arith,
            ⊠-pos (turn σ da d) (dot e e) apart some,
            ⊠-cong-r (turn σ da d) (ahead e e nowhere) (dot e e) (omega (arith, ⊠-zero e.x, ⊠-zero e.y)),
            cramer σ e da d e nowhere,
            none-times α (ahead da e nowhere) no-α,
            none-times β (ahead d e nowhere) no-β,
          ) in
          absurd bad
        where
          zero-factor : (z : Int) → z ⊠ ahead d q a ≃ 0Int → z ≃ 0Int
          zero-factor z h =
              let m = ahead d q a in
              let up = ⊠-nonneg-back m z E (omega (arith, ⊠-comm z m)) in
              let down = ⊠-nonneg-back m (neg z) E (omega (arith, ⊠-comm z m, ⊠-neg m z)) in
              omega arith
