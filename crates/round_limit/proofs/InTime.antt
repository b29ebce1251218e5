-- On squared paper the round limit is never reached, over either format and every bound that leaves the room, if there are enough rounds; within 16 the
-- call's 20 are, so there the call is exact, always. The parts, in order:
--   Potential   of two points that were found: each round leaves at most a quarter, and it never falls below 1; plain numbers, no geometry
--   Turning     turns and distances ahead, and the identities that make a round one of those of `Potential`
--   Between     the next direction lies between those along which the two points were found
--   Edge        what a solve tells of the vertex or the edge that it kept
--   States      what can be known of what was kept, and how many rounds are left; each round leads to a state with fewer
--   Triangles   no triangle of differences is larger than the bound allows
--   Regions     which region of a solve leads to which state
--   Ends        the rounds of the call themselves
--   Limits      the same rounds with a larger limit
-- At 2,048 the limit is reached: `squared_sheets` has such a call, computed.
-- Assumes nothing.

use mathlib.Core.Path.{◌≡◌, sym, ◌∙◌, subst}
use mathlib.Core.List.{List}
use Prim.Native.Nat.{ℕ, ◌/◌, ◌%◌, ◌≤◌, ◌<◌}
use native.Mathlib.Omega.{arith}
use lib.Dec.{lit≤, lit<}
use lib.ListN.{length}
use lib.Ieee.{Float, Format, binary32, binary64}
use Rattle.model.specs.declared.Pose.{Pose}
use Rattle.model.specs.declared.SimplexCache.{SimplexCache}
use Rattle.model.specs.declared.Ending.TheVariants.{RoundLimit}
use Rattle.model.specs.Ground.{origin}
use Rattle.model.specs.Distance.{max_iterations, start_simplex, start_count}
use Rattle.exact.specs.SquaredPaper.{SquaredPaper, Room}
use Rattle.round_limit.specs.RoundLimit.{EnoughRounds, bound_in_time, most_rounds, rounds_within, NeverRunOut, LimitNeverReached, TellsAtMost, AlwaysExact}
use Rattle.exact.proofs.Paper.{InDomain}
use Rattle.exact.proofs.Answered.{answered-in-domain}
use Rattle.exact.proofs.Accepted.{accepted}
use Rattle.exact.proofs.Demand3.{demand3, room_of}
use Rattle.circles.proofs.Told.{told-by-rounds}
use Rattle.round_limit.proofs.Ends.{InTime, call_ends}
use Rattle.round_limit.proofs.Limits.{steady, few-rounds}

in-time : (f : Format) {bound : ℕ} → Room f bound → (k : ℕ) → EnoughRounds bound k → {p : Pose} {a b : List Float} (paper : SquaredPaper bound p a b)
    → InDomain paper → (c : SimplexCache) → (rounds_within f k p a b c).ending ≡ RoundLimit → ⊥
in-time f room k enough paper domain c e = subst InTime e (call_ends f room paper domain enough.quarterings enough.small k enough.rounds c)

pub never-run-out : (f : Format) (bound : ℕ) → Room f bound → (k : ℕ) → EnoughRounds bound k → NeverRunOut f bound k
never-run-out f bound room k enough p a ra b rb c paper inputs = in-time f room k enough paper domain c
  where
    some : (n : ℕ) → n % 2 ≡ 0 → 0 < n → 0 < n / 2
    some n even h = omega arith

    domain : InDomain paper
    domain = record {
      some_a = some (length a) inputs.points_a.even inputs.points_a.some;
      some_b = some (length b) inputs.points_b.even inputs.points_b.some;
      few_a = inputs.points_a.few;
      few_b = inputs.points_b.few;
      small_b = inputs.near_b;
      small_shift = inputs.near_shift;
    }

pub limit-never-reached : (f : Format) (bound : ℕ) → Room f bound → EnoughRounds bound max_iterations → LimitNeverReached f bound
limit-never-reached f bound room enough p a ra b rb radii pair c paper o answered limit =
    let told = told-by-rounds f p a ra b rb radii pair c o answered in
    in-time f room max_iterations enough paper (answered-in-domain f ra rb paper pair c told.passed) c (sym told.ending ∙ limit)

-- rounds that do not run out within a limit are the same within a larger one, and tell no more
pub tells-at-most : (f : Format) (bound : ℕ) → Room f bound → (k : ℕ) → k ≤ max_iterations → EnoughRounds bound k → TellsAtMost f bound k
tells-at-most f bound room k less enough p a ra b rb radii pair c paper o answered =
    let told = told-by-rounds f p a ra b rb radii pair c o answered in
    let s = start_simplex f a b p c in
    let n = start_count c (length a / 2) (length b / 2) in
    let ends = in-time f room k enough paper (answered-in-domain f ra rb paper pair c told.passed) c in
    rw (told.iterations, steady f a b p k max_iterations less s n (origin f) 0 ends) (omega (arith, few-rounds f a b p k s n (origin f) 0))

pub always-exact : (f : Format) (bound : ℕ) → Room f bound → EnoughRounds bound max_iterations → AlwaysExact f bound
always-exact f bound room enough p a ra b rb radii pair c paper inputs arrays own =
    let (o, answered) = accepted f bound p a ra b rb radii pair c paper inputs own in
    let in_time = limit-never-reached f bound room enough p a ra b rb radii pair c paper o answered in
    record { output = o; answered = answered; in_time = in_time; exact = demand3 f bound room p a ra b rb radii pair c paper o arrays answered in_time }

-- ---- the bounds of the formats: 8 * 16 ^ 2 and 8 * 22 ^ 2 are below 4 ^ 6, so 19 rounds are enough, and the call has one more
six-quarterings : (f : Format) (k : ℕ) → most_rounds ≤ k → EnoughRounds (bound_in_time f) k
six-quarterings binary32 k h = record { quarterings = 6; small = lit< tt; rounds = h }
six-quarterings binary64 k h = record { quarterings = 6; small = lit< tt; rounds = h }

pub enough-in-the-call : (f : Format) → EnoughRounds (bound_in_time f) max_iterations
enough-in-the-call f = six-quarterings f max_iterations (lit≤ tt)

pub room-in-time : (f : Format) → Room f (bound_in_time f)
room-in-time binary32 = (lit≤ tt, lit≤ tt)
room-in-time binary64 = (lit≤ tt, lit≤ tt)

pub always-exact-on-squared-paper : (f : Format) → AlwaysExact f (bound_in_time f)
always-exact-on-squared-paper f = always-exact f (bound_in_time f) (room-in-time f) (enough-in-the-call f)

pub at-most-19-rounds : (f : Format) → TellsAtMost f (bound_in_time f) most_rounds
at-most-19-rounds f = tells-at-most f (bound_in_time f) (room-in-time f) most_rounds (lit≤ tt) (six-quarterings f most_rounds (lit≤ tt))

-- at 2,048, where 20 rounds may run out (`Reached`), 33 never do: 8 * 2048 ^ 2 is below 4 ^ 13
pub never-run-out-of-33 : NeverRunOut binary64 2048 33
never-run-out-of-33 = never-run-out binary64 2048 (room_of binary64) 33 (record { quarterings = 13; small = lit< tt; rounds = lit≤ tt })
