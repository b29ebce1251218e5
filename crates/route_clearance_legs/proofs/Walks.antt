-- The pairs of a route, one after another. Assumes nothing.
use mathlib.Core.Path.{◌≡◌, refl, sym}
use mathlib.Core.Bool.{Bool, true, false, not}
use mathlib.Core.List.{List}
use Prim.Native.Nat.{ℕ, suc, ◌+◌, ◌-◌, ◌*◌, ◌/◌, ◌%◌, ◌≤◌, ◌<◌}
use native.Mathlib.Omega.{arith}
use native.Mathlib.Numerals.{add-one}
use native.Mathlib.Nat.{le_antisymm}
use lib.ListN.{length, get_or, take, drop}
use lib.Ieee.{Float}
use Rattle.route_legs.specs.Route.{start_of}
use Rattle.clearance_call.specs.declared.Cleared.{Cleared}
use Rattle.clearance_call.specs.declared.Cleared.TheVariants as cleared
use Rattle.route_clearance_legs.specs.declared.End.{End}
use Rattle.route_clearance_legs.specs.declared.RouteCleared.{RouteCleared}
use Rattle.route_clearance_legs.specs.declared.RouteCleared.TheVariants.{Clear}
use Rattle.route_clearance_legs.specs.Looks.{ToldPast, ToldAt, ToldIn, is_clear, pieces_of, ended_by, end, end_at, Passed, none, more, Walked, passed, ended}

module _ (cart waypoints stills : List Float) (lengths : List ℕ) (slop : Float) where
  abbrev At : ℕ → ℕ → Cleared → Type 0
  At i j = ToldAt cart waypoints stills lengths slop i j

  abbrev In : ℕ → Cleared → Type 0
  In k = ToldIn cart waypoints stills lengths slop k

  abbrev Pass : ℕ → ℕ → Type 0
  Pass k pieces = Passed cart waypoints stills lengths slop k pieces

  -- at most 4,096 pieces a pair
  pub few-pieces : (i j : ℕ) (x : Cleared) → At i j x → pieces_of x ≤ 4096
  unfolding ToldAt
  few-pieces i j (cleared.Refused k) h = omega arith
  few-pieces i j (cleared.Clear n) h = h.few
  few-pieces i j (cleared.Touch u t n) h = h.few
  few-pieces i j (cleared.Open u n) h = h.few

  pub looked-past : {j : ℕ} (i k start n : ℕ) (x : Cleared) → k ≡ j → start ≡ start_of lengths k → n ≡ get_or lengths k 0 →
      ToldPast cart waypoints slop i (take (start + n - start) (drop start stills)) x → At i j x
  unfolding ToldAt
  looked-past {j} i k start n x same begins long is =
      let size : start + n - start ≡ n = omega arith in
      rw (size, long, begins, same) at is

  pub looked-in-order : {leg outline : ℕ} (k n : ℕ) (x : Cleared) → n ≡ length lengths → leg ≡ k / n → outline ≡ k % n → At leg outline x → In k x
  looked-in-order k n x all on-leg past is = rw (on-leg, past, all) at is

  pub ended-in-order : {leg outline : ℕ} (k n pieces : ℕ) (e : End) → n ≡ length lengths → leg ≡ k / n → outline ≡ k % n
      → e ≡ end (leg + 1) (outline + 1) pieces → e ≡ end_at (length lengths) k pieces
  ended-in-order k n pieces e all on-leg past is = rw (on-leg, past, all) at is

  -- none is passed yet
  pub at_first : Pass 0 0
  at_first = none

  -- one pair more
  module _ (k pieces n : ℕ) (x : Cleared) (before : Pass k pieces) (is : In k x) (counts : n ≡ pieces_of x) where
    pub ends-here : (pairs : ℕ) → k < pairs → (clear : Bool) → clear ≡ is_clear x → not clear ≡ true
        → (e : End) → e ≡ end_at (length lengths) k (pieces + n) → (r : RouteCleared) → r ≡ ended_by x e → Walked cart waypoints stills lengths slop pairs r
    ends-here pairs inside true told not_so e at-end r by = absurd (let z : ◌≡◌ {A = ℕ} 0 1 = cc in omega arith)
    ends-here pairs inside false told not_so e at-end r by = rw (by, at-end, counts) (ended x inside before is (sym told))

  pub goes_on : (k pieces n : ℕ) (x : Cleared) → Pass k pieces → In k x → n ≡ pieces_of x → (clear : Bool) → clear ≡ is_clear x → not clear ≡ false
      → Pass (k + 1) (pieces + n)
  goes_on k pieces n (cleared.Clear m) before is counts clear told so = rw (add-one, counts) (more m before is)
  goes_on k pieces n (cleared.Refused m) before is counts clear told so = absurd (let z : ◌≡◌ {A = ℕ} 0 1 = cc in omega arith)
  goes_on k pieces n (cleared.Touch u t m) before is counts clear told so = absurd (let z : ◌≡◌ {A = ℕ} 0 1 = cc in omega arith)
  goes_on k pieces n (cleared.Open u m) before is counts clear told so = absurd (let z : ◌≡◌ {A = ℕ} 0 1 = cc in omega arith)

  pub all-passed : (pairs k pieces : ℕ) → k ≤ pairs → pairs ≤ k → Pass k pieces → Walked cart waypoints stills lengths slop pairs (Clear pieces)
  all-passed pairs k pieces most over p = passed (rw (le_antisymm most over) at p)
