-- The sweeps of a route, one after another. Assumes nothing.
use mathlib.Core.Path.{◌≡◌, ◌∙◌}
use mathlib.Core.Bool.{Bool, true, false, not}
use mathlib.Core.List.{List}
use Prim.Native.Nat.{ℕ, suc, ◌+◌, ◌-◌, ◌/◌, ◌%◌, ◌≤◌, ◌<◌}
use native.Mathlib.Omega.{arith}
use native.Mathlib.Nat.{div-le_self, mod-lt}
use lib.ListN.{length, get_or, take, drop}
use lib.Ieee.{Float, Format}
use Rattle.model.specs.declared.SweepAnswer.{SweepAnswer}
use Rattle.model.specs.declared.SweepAnswer.TheVariants.{Overlapped, Hit, Separated, Failed, Refused}
use Rattle.model.proofs.SweepToi.{Counted, sweep-counts-bounded}
use Rattle.route_legs.specs.declared.Stop.{Stop}
use Rattle.route_legs.specs.declared.RouteAnswer.{RouteAnswer}
use Rattle.route_legs.specs.declared.RouteAnswer.TheVariants.{Clear}
use Rattle.route_legs.specs.Route.{start_of, is_separated, calls_of, ended_by, stop, stop_at, sweep_past, sweep_at, sweep_in, walk_from}

-- at most 20 distance calls a sweep
few : (x : SweepAnswer) → Counted x → calls_of x ≤ 20
few (Overlapped n) b = b.few-calls
few (Hit c n) b = b.few-calls
few (Separated c n) b = b.few-calls
few (Failed c n) b = b.few-calls
few (Refused k) b = omega arith

module _ (f : Format) (cart waypoints stills : List Float) (lengths : List ℕ) (slop : Float) where
  abbrev from : ℕ → ℕ → ℕ → RouteAnswer
  from left k calls = walk_from f cart waypoints stills lengths slop left k calls

  abbrev at : ℕ → ℕ → SweepAnswer
  at i j = sweep_at f cart waypoints stills lengths slop i j

  pub few-calls-at : (i j : ℕ) → calls_of (at i j) ≤ 20
  unfolding sweep_at
  few-calls-at i j = few (at i j) (sweep-counts-bounded f cart _ _ _ _ _ _ slop)

  pub few-calls-of : (i j n : ℕ) (x : SweepAnswer) → x ≡ at i j → n ≡ calls_of x → n ≤ 20
  few-calls-of i j n x is e = rw (e, is) (few-calls-at i j)

  pub swept-past : {j : ℕ} (i k start n : ℕ) (x : SweepAnswer) → k ≡ j → start ≡ start_of lengths k → n ≡ get_or lengths k 0 →
      x ≡ sweep_past f cart waypoints slop i (take (start + n - start) (drop start stills)) → x ≡ at i j
  unfolding sweep_at
  swept-past {j} i k start n x same begins long is =
      let size : start + n - start ≡ n = omega arith in
      is ∙ rw (size, long, begins, same)

  -- one sweep more
  module _ (sweeps k calls n : ℕ) (x : SweepAnswer) (before : k < sweeps) (is : x ≡ sweep_in f cart waypoints stills lengths slop k)
      (counts : n ≡ calls_of x) where
    one_less : sweeps - k ≡ suc (sweeps - (k + 1))
    one_less = omega arith

    pub ends-here : (separated : Bool) → separated ≡ is_separated x → not separated ≡ true → (s : Stop) → s ≡ stop_at (length lengths) k (calls + n) →
        (r : RouteAnswer) → r ≡ ended_by f x s → r ≡ from (sweeps - k) k calls
    unfolding walk_from
    ends-here true told e s at-stop r ended = absurd (let z : ◌≡◌ {A = ℕ} 0 1 = cc in omega arith)
    ends-here false told e s at-stop r ended = rw (one_less, ← is, ← told, ended, at-stop, counts)

    pub goes_on : (separated : Bool) → separated ≡ is_separated x → not separated ≡ false → from (sweeps - (k + 1)) (k + 1) (calls + n)
        ≡ from (sweeps - k) k calls
    unfolding walk_from
    goes_on false told e = absurd (let z : ◌≡◌ {A = ℕ} 0 1 = cc in omega arith)
    goes_on true told e = rw (one_less, ← is, ← told, counts)

  pub at_first : (sweeps : ℕ) → from (sweeps - 0) 0 0 ≡ from sweeps 0 0
  at_first sweeps = let all : sweeps - 0 ≡ sweeps = omega arith in rw all

  pub all-passed : (sweeps k calls : ℕ) → sweeps ≤ k → Clear calls ≡ from (sweeps - k) k calls
  unfolding walk_from
  all-passed sweeps k calls over = let none : sweeps - k ≡ 0 = omega arith in rw none

-- ---- where sweep k stands, past n outlines on each leg
pub leg-few : {leg : ℕ} (k n m : ℕ) → leg ≡ k / n → k ≤ m → leg ≤ m
leg-few k n m is small = omega (arith, div-le_self k n, is)

pub outline-few : {outline : ℕ} (k n : ℕ) → outline ≡ k % n → 1 ≤ n → outline < n
outline-few k n is some = rw is (mod-lt k some)

module _ (f : Format) (cart waypoints stills : List Float) (lengths : List ℕ) (slop : Float) {leg outline : ℕ} (k n : ℕ) (all : n ≡ length lengths)
    (on-leg : leg ≡ k / n) (past : outline ≡ k % n) where
  pub swept-in-order : {x : SweepAnswer} → x ≡ sweep_at f cart waypoints stills lengths slop leg outline → x ≡ sweep_in f cart waypoints stills lengths slop k
  swept-in-order is = is ∙ rw (on-leg, past, all)

  pub stopped-in-order : {s : Stop} (calls : ℕ) → s ≡ stop (leg + 1) (outline + 1) calls → s ≡ stop_at (length lengths) k calls
  stopped-in-order calls is = is ∙ rw (on-leg, past, all)
