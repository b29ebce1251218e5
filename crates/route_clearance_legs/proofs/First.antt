-- What a route's answer says by leg and outline: clear, and then every leg is clear of every still outline; or the first pair in order that is not told clear,
-- with what holds of it. Pairs are looked at by their number in order, and the number taken apart in the end. Assumes nothing.
use mathlib.Core.Path.{◌≡◌, refl, ap, subst}
use mathlib.Core.Bool.{true, false}
use mathlib.Core.List.{List, []}
use mathlib.Core.Logic.{inl, inr}
use Prim.Native.Nat.{ℕ, zero, suc, ◌+◌, ◌*◌, ◌/◌, ◌%◌, ◌≤◌, ◌<◌}
use native.Mathlib.Omega.{arith}
use native.Mathlib.Numerals.{add-one}
use native.Mathlib.Nat.{mod-lt, mod-eq_of_lt, div-eq_of_lt, mul-add-div_right, mul-add-mod_self_right, div-add-mod', div-lt_iff_lt-mul, mul-le-mul_right}
use borrow.Author.Count.{below_more}
use lib.ListN.{length}
use lib.Ieee.{Float, nan, binary32}
use Rattle.route_legs.specs.Promise.{Before}
use Rattle.route_legs.proofs.First.{some-outline}
use Rattle.clearance_call.specs.declared.Cleared.{Cleared}
use Rattle.clearance_call.specs.declared.Cleared.TheVariants as cleared
use Rattle.route_clearance_legs.specs.declared.End.{End}
use Rattle.route_clearance_legs.specs.declared.RouteCleared.{RouteCleared}
use Rattle.route_clearance_legs.specs.Looks.{ToldAt, ToldIn, is_clear, pieces_of, ended_by, end_at, wrong_lists, Passed, none, more, Walked, passed, ended}
use Rattle.route_clearance_legs.specs.Looks.{Told, wrongly, walked}
use Rattle.route_clearance_legs.specs.Promise.{L, K, ClearOn, refusal_on, StopsAt, Stopped, AllClear, Says, pieces_told}
use Rattle.route_clearance_legs.proofs.Checks.{few-pairs}
use Rattle.route_clearance_legs.proofs.Walks.{few-pieces}

-- one leg more is so many pairs more
leg-more : (i k : ℕ) → suc i * k ≡ i * k + k
leg-more i k = omega arith

-- where a pair ends a route it tells the pieces that it is told
ended-pieces : (x : Cleared) (e : End) → pieces_told (ended_by x e) ≡ e.pieces
ended-pieces (cleared.Refused n) e = refl
ended-pieces (cleared.Clear n) e = refl
ended-pieces (cleared.Touch u t n) e = refl
ended-pieces (cleared.Open u n) e = refl

module _ (cart waypoints stills : List Float) (lengths : List ℕ) (slop : Float) where
  abbrev k# : ℕ
  k# = length lengths

  abbrev legs# : ℕ
  legs# = L cart waypoints stills lengths slop

  -- not refused, and clear
  abbrev Good : ℕ → ℕ → Type 0
  Good i j = (refusal_on cart waypoints stills lengths slop i j ≡ 0) × ClearOn cart waypoints stills lengths slop i j

  -- ---- by the number in order
  good-pair : (i j n : ℕ) → ToldAt cart waypoints stills lengths slop i j (cleared.Clear n) → Good i j
  unfolding ToldAt
  good-pair i j n h = (h.passed, h.holds)

  all-good : (k pieces : ℕ) → Passed cart waypoints stills lengths slop k pieces → (m : ℕ) → m < k → Good (m / k#) (m % k#)
  all-good _ _ none = λ m h. absurd (omega arith)
  all-good _ _ (more {k} {pieces} n before is) =
      subst (λ (e : ℕ). (m : ℕ) → m < e → Good (m / k#) (m % k#)) (add-one k)
      (below_more (λ (m : ℕ). Good (m / k#) (m % k#)) k (all-good k pieces before) (good-pair (k / k#) (k % k#) n is))

  few : (k pieces : ℕ) → Passed cart waypoints stills lengths slop k pieces → pieces ≤ 4096 * k
  few _ _ none = omega arith
  few _ _ (more {k} {pieces} n before is) =
      omega (arith, few k pieces before, few-pieces cart waypoints stills lengths slop (k / k#) (k % k#) (cleared.Clear n) is)

  -- ---- by leg and outline
  module _ (right : wrong_lists waypoints stills lengths ≡ 0) where
    some : 0 < k#
    some = some-outline binary32 [] waypoints stills lengths nan right

    leg-in-order : (i j : ℕ) → j < k# → (i * k# + j) / k# ≡ i
    leg-in-order i j inside = rw (mul-add-div_right some i j, div-eq_of_lt inside) (omega arith)

    outline-in-order : (i j : ℕ) → j < k# → (i * k# + j) % k# ≡ j
    outline-in-order i j inside = rw (mul-add-mod_self_right i k# j) (mod-eq_of_lt inside)

    in_order : (i j : ℕ) → j < k# → Good ((i * k# + j) / k#) ((i * k# + j) % k#) → Good i j
    in_order i j inside h =
        subst (λ (m : ℕ). Good m j) (leg-in-order i j inside)
        (subst (λ (n : ℕ). Good ((i * k# + j) / k#) n) (outline-in-order i j inside) h)

    earlier : (m i : ℕ) → m < i → m * k# + k# ≤ i * k#
    earlier m i less = rw (← leg-more m k#) (mul-le-mul_right k# less)

    whole : (k : ℕ) → k / k# * k# + k % k# ≡ k
    whole k = div-add-mod' k k#

    earlier-by : (k m n : ℕ) → n < k# → Before m n (k / k#) (k % k#) → m * k# + n < k
    earlier-by k m n small (inl less) = omega (arith, earlier m (k / k#) less, whole k)
    earlier-by k m n small (inr same) = rw same.0 (omega (arith, same.1, whole k))

    all-clear : (pieces : ℕ) → Passed cart waypoints stills lengths slop (legs# * k#) pieces → AllClear cart waypoints stills lengths slop
    all-clear pieces p = record {
      right = right;
      each = λ i j leg inside. in_order i j inside (all-good _ pieces p (i * k# + j) (omega (arith, earlier i legs# leg)));
    }

    stops : (k pieces : ℕ) → k < legs# * k# → Passed cart waypoints stills lengths slop k pieces
        → StopsAt cart waypoints stills lengths slop (k / k#) (k % k#)
    stops k pieces inside p = record {
      leg = (div-lt_iff_lt-mul some).1 inside;
      outline = mod-lt k some;
      before = λ m n small b. in_order m n small (all-good k pieces p (m * k# + n) (earlier-by k m n small b));
    }

    -- the pair after the first k, with what holds of it
    module _ (k pieces : ℕ) (inside : k < legs# * k#) (p : Passed cart waypoints stills lengths slop k pieces) where
      stopped : (n : ℕ) → n ≤ 4096 → (Holds : ℕ → ℕ → Type 0) → Holds (k / k#) (k % k#)
          → Stopped cart waypoints stills lengths slop (end_at k# k (pieces + n)) Holds
      stopped n small Holds holds = record {
        right = right;
        i = k / k#;
        j = k % k#;
        leg-told = refl;
        outline-told = refl;
        stops = stops k pieces inside p;
        holds = holds;
        few = omega (arith, few k pieces p, whole k);
      }

      says_there : (x : Cleared) → ToldIn cart waypoints stills lengths slop k x → is_clear x ≡ false
          → Says cart waypoints stills lengths slop (ended_by x (end_at k# k (pieces + pieces_of x)))
      unfolding ToldAt
      says_there (cleared.Refused n) h so = stopped 0 (omega arith) _ h
      says_there (cleared.Clear n) h so = absurd (let z : ◌≡◌ {A = ℕ} 0 1 = cc in omega arith)
      says_there (cleared.Touch u t n) h so = stopped n h.few _ (h.passed, h.holds, h.whole)
      says_there (cleared.Open u n) h so = stopped n h.few _ (h.passed, h.holds.says, h.whole)

    walk-says : (r : RouteCleared) → Walked cart waypoints stills lengths slop (legs# * k#) r → Says cart waypoints stills lengths slop r
    walk-says _ (passed {pieces} p) = (all-clear pieces p, few _ pieces p)
    walk-says _ (ended {k} {pieces} x inside p h so) = says_there k pieces inside p x h so

  -- ---- the answer
  pub route-says : (r : RouteCleared) → Told cart waypoints stills lengths slop r → Says cart waypoints stills lengths slop r
  route-says _ (wrongly e some) = (e, some)
  route-says r (walked right w) = walk-says right r w

  -- ---- at most 4,096 pieces for each of 32 legs past 32 outlines are told
  walk-few : (pairs : ℕ) (r : RouteCleared) → Walked cart waypoints stills lengths slop pairs r → pieces_told r ≤ 4096 * pairs
  walk-few pairs _ (passed {pieces} p) = few pairs pieces p
  walk-few pairs _ (ended {k} {pieces} x inside p h so) =
      rw (ended-pieces x (end_at k# k (pieces + pieces_of x)))
      (omega (arith, few k pieces p, few-pieces cart waypoints stills lengths slop (k / k#) (k % k#) x h))

  pub pieces-few : (r : RouteCleared) → Told cart waypoints stills lengths slop r → pieces_told r ≤ 4194304
  pieces-few _ (wrongly e some) = omega arith
  pieces-few r (walked right w) = omega (arith, walk-few (legs# * k#) r w, few-pairs waypoints stills lengths right)
