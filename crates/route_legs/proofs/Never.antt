-- No sweep of a route is refused by 4 or by 7: the radii are 0, and each leg is swept whole. Assumes nothing.
use mathlib.Core.Path.{◌≡◌, refl, subst}
use mathlib.Core.Bool.{Bool, true, false, ◌&&◌, ◌||◌, cond}
use mathlib.Core.List.{List}
use Prim.Native.Nat.{ℕ, zero, suc}
use native.Mathlib.Omega.{arith}
use lib.Ieee.{Float, Format, binary32, binary64, of_bits, lt, le}
use Rattle.model.specs.declared.Sweep.{Sweep}
use Rattle.model.specs.declared.SweepAnswer.TheVariants as Swept
use Rattle.model.specs.Ground.{one}
use Rattle.model.specs.Ground as Ground
use Rattle.model.specs.Domain.{bad_outline, bad_parts, bad_radius, bad_rotation, bad_centres, pair_refusal, sweeps_refusal, fraction_refusal, or_else, limit}
use Rattle.model.specs.SweepToi.{sweep_time_of_impact, sweep_refusal, sweep_by, sweep_task, no_corners, no_counts}
use Rattle.route_legs.specs.declared.Stop.{Stop}
use Rattle.route_legs.specs.declared.RouteAnswer.TheVariants.{Refused}
use Rattle.route_legs.specs.Route.{leg_move, still_move, outline_at, sweep_at, wrong, route}
use Rattle.route_legs.specs.Promise.{RefusedAt, at}
use Rattle.route_legs.proofs.Answers.{Answered, advance-answers}
use Rattle.route_legs.proofs.First.{refused-as-swept}

-- the radius 0 is no bad one, and the fraction 1 is not refused
no-radius : (f : Format) → bad_radius f (Ground.zero f) ≡ false
unfolding le of_bits
no-radius binary32 = refl
no-radius binary64 = refl

whole-leg : (f : Format) → fraction_refusal f (one f) ≡ 0
unfolding le of_bits
whole-leg binary32 = refl
whole-leg binary64 = refl

-- ---- neither 4 nor 7
abbrev Other : ℕ → Type 0
Other n = (n ≡ 4 → ⊥) × (n ≡ 7 → ⊥)

or-else : (m n : ℕ) → Other m → Other n → Other (or_else m n)
or-else zero n a b = b
or-else (suc m) n a b = a

pair-other : (a b c : Bool) → Other (cond a 1 (cond b 2 (cond c 3 0)))
pair-other true b c = (λ e. omega (arith, e), λ e. omega (arith, e))
pair-other false true c = (λ e. omega (arith, e), λ e. omega (arith, e))
pair-other false false true = (λ e. omega (arith, e), λ e. omega (arith, e))
pair-other false false false = (λ e. omega (arith, e), λ e. omega (arith, e))

moves-other : (a b : Bool) → Other (cond a 5 (cond b 6 0))
moves-other true b = (λ e. omega (arith, e), λ e. omega (arith, e))
moves-other false true = (λ e. omega (arith, e), λ e. omega (arith, e))
moves-other false false = (λ e. omega (arith, e), λ e. omega (arith, e))

slop-other : (a : Bool) → Other (cond a 0 8)
slop-other true = (λ e. omega (arith, e), λ e. omega (arith, e))
slop-other false = (λ e. omega (arith, e), λ e. omega (arith, e))

module _ (f : Format) (a : List Float) (wa : Sweep) (b : List Float) (wb : Sweep) (slop : Float) where
  abbrev number : ℕ
  number = sweep_refusal f a (Ground.zero f) wa b (Ground.zero f) wb (one f) slop

  number-other : Other number
  number-other =
      or-else (pair_refusal f a b (Ground.zero f) (Ground.zero f)) _
      (rw (no-radius f) (pair-other (bad_outline a) (bad_outline b) (bad_parts f a || bad_parts f b)))
      (or-else (sweeps_refusal f wa wb) _
      (moves-other (bad_rotation f wa.q1 || bad_rotation f wa.q2 || bad_rotation f wb.q1 || bad_rotation f wb.q2)
      (bad_centres f wa || bad_centres f wb))
      (rw (whole-leg f) (slop-other (lt (Ground.zero f) slop && le slop (limit f)))))

  -- such a sweep is refused by its number alone
  sweep-other : (k : ℕ) → sweep_time_of_impact f a (Ground.zero f) wa b (Ground.zero f) wb (one f) slop ≡ Swept.Refused k → Other k
  unfolding sweep_time_of_impact
  sweep-other k e = go number number-other e
    where
      go : (n : ℕ) → Other n → sweep_by f a (Ground.zero f) wa b (Ground.zero f) wb (one f) slop n ≡ Swept.Refused k → Other k
      go zero o e = absurd (subst Answered e
          (advance-answers f (sweep_task f (Ground.zero f) wa (Ground.zero f) wb (one f) slop) a b 19 (Ground.zero f) no_corners no_counts))
      go (suc n) o e = let same : suc n ≡ k = cc in rw same at o

-- ---- the route
module _ (f : Format) (cart waypoints stills : List Float) (lengths : List ℕ) (slop : Float) where
  pub never-4-or-7 : wrong f cart waypoints stills lengths slop ≡ 0 → (s : Stop) (k : ℕ) → route f cart waypoints stills lengths slop ≡ Refused s k → Other k
  unfolding sweep_at
  never-4-or-7 right s k e = go (refused-as-swept f cart waypoints stills lengths slop right s k e)
    where
      go : RefusedAt f cart waypoints stills lengths slop k → Other k
      go (at i j first so) = sweep-other f cart (leg_move f waypoints i) (outline_at stills lengths j) (still_move f) slop k so
