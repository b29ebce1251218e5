-- Written by tests/written/wide.py from distance, in f64.
-- What the loops of the distance call meet: one more entry or slot, one more round, and its endings. Assumes nothing.
use Prim.Native.Nat.{ℕ, zero, suc, ◌+◌, ◌-◌, ◌/◌, ◌<◌, ◌≤◌}
use native.Mathlib.Omega.{arith}
use native.Mathlib.Numerals.{add-one}
use mathlib.Core.Bool.{Bool, true, false, ◌&&◌, ◌||◌, cond}
use mathlib.Core.List.{List}
use mathlib.Core.Path.{◌≡◌, refl, ◌∙◌}
use borrow.Author.Tests.{eqb-false}
use lib.Dec.{eqb, ltb}
use lib.ListN.{get_or, set, length}
use lib.Ieee.{Float, Format}
use Rattle.model64.specs.declared.Vector.{Vector}
use Rattle.model64.specs.declared.Pose.{Pose}
use Rattle.model64.specs.declared.SimplexVertex.{SimplexVertex}
use Rattle.model64.specs.declared.Solved.{Solved}
use Rattle.model.specs.declared.SimplexCache.{SimplexCache}
use Rattle.model.specs.declared.Ending.TheVariants.{Touching, Settled, RoundLimit}
use Rattle.model64.specs.Ground.{origin}
use Rattle.model64.specs.Simplex.{slot, solve}
use Rattle.model.specs.Distance.{all_below, replaced, start_count}
use Rattle.model64.specs.Distance.{held, ended, touches, vertex, start_simplex, support_a, support_b, extended, rounds_from, rounds}
use Rattle.model64.proofs.Simplex.{Few, solve-few}
use Rattle.model64.proofs.DistanceCall.{neither}

pub below_step : (limit : ℕ) (l : List ℕ) (i : ℕ) → all_below limit l (i + 1) ≡ (all_below limit l i && ltb (get_or l i 0) limit)
unfolding all_below
below_step limit l i = rw add-one

pub replaced-step : (l : List ℕ) (i : ℕ) (g : ℕ → ℕ) → replaced l (i + 1) g ≡ set (replaced l i g) i (g i)
unfolding replaced
replaced-step l i g = rw add-one

-- ---- whether a pair is held by the first n slots, all three looked at
or-false : (x : Bool) → (x || false) ≡ x
or-false true = refl
or-false false = refl

module _ (s : List SimplexVertex) (a b : ℕ) where
  abbrev in_slot : ℕ → ℕ → Bool
  in_slot n i = (ltb i n && eqb (slot s i).index_a a) && eqb (slot s i).index_b b

  pub held_of : (n : ℕ) → n ≤ 3 → ((in_slot n 0 || in_slot n 1) || in_slot n 2) ≡ held s n a b
  unfolding held
  held_of zero h = refl
  held_of (suc zero) h = or-false _ ∙ or-false _
  held_of (suc (suc zero)) h = or-false _
  held_of (suc (suc (suc zero))) h = refl
  held_of (suc (suc (suc (suc n)))) h = absurd (omega arith)

-- ---- the rounds
-- a round that went on to a new pair (i, j): what was worked out, and whether the pair came again
pub record Made (f : Format) (a b : List Float) (p : Pose) (s : List SimplexVertex) (n it : ℕ) (r : Solved) (i j : ℕ) (again : Bool) : Type 0 where
  pub left : it < 20
  pub solves : r ≡ solve f s n
  pub apart : touches f r ≡ false
  pub first : i ≡ support_a f a r.direction
  pub second : j ≡ support_b f b p r.direction
  pub known : again ≡ held s n i j

-- a slot is free behind what is kept
pub room : (f : Format) (s : List SimplexVertex) (n : ℕ) (r : Solved) (t : Bool) → r ≡ solve f s n → (eqb r.count 3 || t) ≡ false → r.count ≤ 2
room f s n r t e h =
    let few : Few r = rw e (solve-few f s n) in
    let less = eqb-false r.count 3 (neither (eqb r.count 3) t h).0 in
    omega (arith, few.most, less)

-- one or two are kept
pub one-or-two : (f : Format) (s : List SimplexVertex) (n : ℕ) (r : Solved) (t : Bool) → r ≡ solve f s n → (eqb r.count 3 || t) ≡ false →
    (1 ≤ r.count) × (r.count ≤ 2)
one-or-two f s n r t e h =
    let few : Few r = rw e (solve-few f s n) in
    (few.some, room f s n r t e h)

module _ (f : Format) (a b : List Float) (p : Pose) where
  -- 20 rounds from the start are the rounds
  pub begun : (c : SimplexCache) (s : List SimplexVertex) (n : ℕ) (d : Vector) →
      s ≡ start_simplex f a b p c → n ≡ start_count c (length a / 2) (length b / 2) → d ≡ origin f →
      rounds_from f a b p 20 s n d 0 ≡ rounds f a b p c
  begun c s n d es en ed = rw (es, en, ed)

  module _ (s : List SimplexVertex) (n : ℕ) (d : Vector) (it : ℕ) where
    pub limit : it ≤ 20 → 20 ≤ it → ended RoundLimit s n d 20 ≡ rounds_from f a b p (20 - it) s n d it
    unfolding rounds_from
    limit h k = let all : it ≡ 20 = omega arith in rw all

    round : (r : Solved) → it < 20 → r ≡ solve f s n →
        cond (touches f r) (ended Touching r.simplex r.count (origin f) it)
        (cond (held s n (support_a f a r.direction) (support_b f b p r.direction)) (ended Settled (extended f a b p r) r.count r.direction (it + 1))
        (rounds_from f a b p (20 - (it + 1)) (extended f a b p r) (r.count + 1) r.direction (it + 1)))
        ≡ rounds_from f a b p (20 - it) s n d it
    unfolding rounds_from
    round r h e =
        let x : 20 - it ≡ suc (19 - it) = omega arith in
        let y : 20 - (it + 1) ≡ 19 - it = omega arith in
        rw (x, y, e)

    pub touching : (r : Solved) → it < 20 → r ≡ solve f s n → touches f r ≡ true → (o : Vector) → o ≡ origin f →
        ended Touching r.simplex r.count o it ≡ rounds_from f a b p (20 - it) s n d it
    touching r h e t o eo = rw eo (rw t at (round r h e))

    module _ {r : Solved} {i j : ℕ} {again : Bool} (m : Made f a b p s n it r i j again) (t : List SimplexVertex)
        (grows : t ≡ set r.simplex r.count (vertex f a b p i j (slot r.simplex r.count).a)) where
      -- the slots with the new vertex
      placed : t ≡ extended f a b p r
      placed = rw (grows, m.first, m.second)

      pair-known : held s n (support_a f a r.direction) (support_b f b p r.direction) ≡ again
      pair-known = rw (m.known, m.first, m.second)

      pub settled : again ≡ true → ended Settled t r.count r.direction (it + 1) ≡ rounds_from f a b p (20 - it) s n d it
      settled y = rw placed (rw (m.apart, pair-known, y) at (round r m.left m.solves))

      pub another : again ≡ false → rounds_from f a b p (20 - (it + 1)) t (r.count + 1) r.direction (it + 1) ≡ rounds_from f a b p (20 - it) s n d it
      another y = rw placed (rw (m.apart, pair-known, y) at (round r m.left m.solves))
