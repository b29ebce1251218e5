-- A route is clear just where every leg is separated from every still outline; else the first leg in order that is not ends it, with its lowest
-- outline. The distance calls told are the sum over the sweeps that were run, at most 20 for each. Sweeps are looked at by their number in order, and
-- the number taken apart in the end. Assumes nothing.
use mathlib.Core.Path.{◌≡◌, refl, ap}
use mathlib.Core.Bool.{Bool, true, false, ◌||◌, cond}
use mathlib.Core.List.{List}
use mathlib.Core.Logic.{inl, inr}
use Prim.Native.Nat.{ℕ, zero, suc, ◌+◌, ◌*◌, ◌/◌, ◌%◌, ◌≤◌, ◌<◌}
use native.Mathlib.Omega.{arith}
use native.Mathlib.Numerals.{add-one}
use native.Mathlib.Nat.{mod-lt, mod-eq_of_lt, div-eq_of_lt, mul-add-div_right, mul-add-mod_self_right, div-add-mod', div-lt_iff_lt-mul, mul-le-mul_right}
use native.Mathlib.Nat.{zero-mul}
use borrow.Author.Count.{below_more}
use lib.Dec.{eqb, ltb}
use lib.ListN.{length}
use lib.Ieee.{Float, Format}
use Rattle.model.specs.declared.SweepAnswer.{SweepAnswer}
use Rattle.model.specs.declared.SweepAnswer.TheVariants as Sweep
use Rattle.route_legs.specs.declared.RouteAnswer.{RouteAnswer}
use Rattle.route_legs.specs.declared.RouteAnswer.TheVariants.{Clear, Refused}
use Rattle.route_legs.specs.declared.Stop.{Stop}
use Rattle.route_legs.specs.Route.{sweep_in, is_separated, calls_of, ended_by, stop_at, walk_from, wrong, route}
use Rattle.route_legs.specs.Promise.{Before, calls_told, swept, L, K, leg_calls, route_calls, AllSeparated, First, Outcome, clear, ended, RefusedAt, at}
use Rattle.route_legs.proofs.Walks.{few-calls-at}

-- without an outline something is wrong, whatever the waypoints
never-right : (a b : Bool) → ◌≡◌ {A = ℕ} (cond a (cond b 16 17) 255) 0 → ⊥
never-right true true e = omega (arith, e)
never-right true false e = omega (arith, e)
never-right false b e = omega (arith, e)

-- a sweep that is not separated clears nothing
never-clear : (f : Format) (x : SweepAnswer) (s : Stop) (n : ℕ) → is_separated x ≡ false → ended_by f x s ≡ Clear n → ⊥
never-clear f (Sweep.Overlapped m) s n so e = let z : ◌≡◌ {A = ℕ} 0 1 = cc in omega arith
never-clear f (Sweep.Hit c m) s n so e = let z : ◌≡◌ {A = ℕ} 0 1 = cc in omega arith
never-clear f (Sweep.Separated c m) s n so e = let z : ◌≡◌ {A = ℕ} 0 1 = cc in omega arith
never-clear f (Sweep.Failed c m) s n so e = let z : ◌≡◌ {A = ℕ} 0 1 = cc in omega arith
never-clear f (Sweep.Refused k) s n so e = let z : ◌≡◌ {A = ℕ} 0 1 = cc in omega arith

-- where a sweep ends a route it tells the calls that it is told
ended-calls : (f : Format) (x : SweepAnswer) (s : Stop) → calls_told (ended_by f x s) ≡ s.calls
ended-calls f (Sweep.Overlapped m) s = refl
ended-calls f (Sweep.Hit c m) s = refl
ended-calls f (Sweep.Separated c m) s = refl
ended-calls f (Sweep.Failed c m) s = refl
ended-calls f (Sweep.Refused k) s = refl

-- a sweep that refuses a route has that number
refused-by : (f : Format) (x : SweepAnswer) (s t : Stop) (k : ℕ) → ended_by f x s ≡ Refused t k → x ≡ Sweep.Refused k
refused-by f (Sweep.Overlapped m) s t k e = absurd (let z : ◌≡◌ {A = ℕ} 0 1 = cc in omega arith)
refused-by f (Sweep.Hit c m) s t k e = absurd (let z : ◌≡◌ {A = ℕ} 0 1 = cc in omega arith)
refused-by f (Sweep.Separated c m) s t k e = absurd (let z : ◌≡◌ {A = ℕ} 0 1 = cc in omega arith)
refused-by f (Sweep.Failed c m) s t k e = absurd (let z : ◌≡◌ {A = ℕ} 0 1 = cc in omega arith)
refused-by f (Sweep.Refused n) s t k e = cc

-- one leg more is K sweeps more
leg-more : (i k : ℕ) → suc i * k ≡ i * k + k
leg-more i k = omega arith

module _ (f : Format) (cart waypoints stills : List Float) (lengths : List ℕ) (slop : Float) where
  abbrev k# : ℕ
  k# = K f cart waypoints stills lengths slop

  abbrev legs# : ℕ
  legs# = L f cart waypoints stills lengths slop

  abbrev nth : ℕ → SweepAnswer
  nth k = sweep_in f cart waypoints stills lengths slop k

  abbrev one : ℕ → ℕ → SweepAnswer
  one i j = swept f cart waypoints stills lengths slop i j

  -- ---- by the number in order
  unfoldable calls : ℕ → ℕ
  calls zero = 0
  calls (suc k) = calls k + calls_of (nth k)

  data Walked (total : ℕ) : RouteAnswer → Type 0 where
    passed : ((k : ℕ) → k < total → is_separated (nth k) ≡ true) → Walked total (Clear (calls total))
    stopped : (k : ℕ) → k < total → is_separated (nth k) ≡ false → ((m : ℕ) → m < k → is_separated (nth m) ≡ true) →
        Walked total (ended_by f (nth k) (stop_at k# k (calls (suc k))))

  one_more : (n k : ℕ) → n ≡ calls k → n + calls_of (nth k) ≡ calls (suc k)
  unfolding calls
  one_more n k e = rw e

  walked : (left k n : ℕ) → n ≡ calls k → ((m : ℕ) → m < k → is_separated (nth m) ≡ true) → (total : ℕ) → k + left ≡ total →
      Walked total (walk_from f cart waypoints stills lengths slop left k n)
  unfolding walk_from
  walked zero k n sum before total e =
      let same : k ≡ total = omega arith in
      rw (sum, same) (passed (λ m h. before m (omega arith)))
  walked (suc left) k n sum before total e =
      let next : n + calls_of (nth k) ≡ calls (k + 1) = rw add-one (one_more n k sum) in
      go (is_separated (nth k)) refl
      (λ so. walked left (k + 1) (n + calls_of (nth k)) next (below_more _ _ before so) total (omega arith))
    where
      go : (t : Bool) → is_separated (nth k) ≡ t →
          (is_separated (nth k) ≡ true → Walked total (walk_from f cart waypoints stills lengths slop left (k + 1) (n + calls_of (nth k)))) →
          Walked total (cond t (walk_from f cart waypoints stills lengths slop left (k + 1) (n + calls_of (nth k)))
          (ended_by f (nth k) (stop_at k# k (n + calls_of (nth k)))))
      go true so on = on so
      go false so on = rw (one_more n k sum) (stopped k (omega arith) so before)

  -- ---- by leg and outline
  module _ (some : 0 < k#) where
    in_order : (i j : ℕ) → j < k# → nth (i * k# + j) ≡ one i j
    in_order i j inside =
        rw (mul-add-div_right some i j, div-eq_of_lt inside, mul-add-mod_self_right i k# j, mod-eq_of_lt inside) (ap (λ (m : ℕ). one m j) (omega arith))

    earlier : (m i : ℕ) → m < i → m * k# + k# ≤ i * k#
    earlier m i less = rw (← leg-more m k#) (mul-le-mul_right k# less)

    leg-sum : (i j : ℕ) → j ≤ k# → calls (i * k# + j) ≡ calls (i * k#) + leg_calls f cart waypoints stills lengths slop i j
    unfolding calls leg_calls
    leg-sum i zero most = let e : i * k# + 0 ≡ i * k# = omega arith in rw e (omega arith)
    leg-sum i (suc j) most =
        let e : i * k# + suc j ≡ suc (i * k# + j) = omega arith in
        rw (e, leg-sum i j (omega arith), in_order i j (omega arith)) (omega arith)

    legs-sum : (m : ℕ) → calls (m * k#) ≡ route_calls f cart waypoints stills lengths slop m
    unfolding calls route_calls
    legs-sum zero = rw (zero-mul k#)
    legs-sum (suc m) = rw (leg-more m k#, leg-sum m k# (omega arith), legs-sum m)

    sum_to : (i j k : ℕ) → i * k# + j ≡ k → j < k# →
        calls (suc k) ≡ route_calls f cart waypoints stills lengths slop i + leg_calls f cart waypoints stills lengths slop i (j + 1)
    sum_to i j k e inside =
        let same : suc k ≡ i * k# + (j + 1) = omega arith in
        rw (same, leg-sum i (j + 1) (omega arith), legs-sum i)

    first : (k : ℕ) → k < legs# * k# → is_separated (nth k) ≡ false → ((m : ℕ) → m < k → is_separated (nth m) ≡ true) →
        First f cart waypoints stills lengths slop (k / k#) (k % k#)
    first k inside so before = record {
      leg = leg-inside;
      outline = mod-lt k some;
      ends = so;
      before = λ m n small b. rw (← in_order m n small) (before (m * k# + n) (earlier-by m n small b));
    }
      where
        whole : k / k# * k# + k % k# ≡ k
        whole = div-add-mod' k k#

        leg-inside : k / k# < legs#
        leg-inside = (div-lt_iff_lt-mul some).1 inside

        earlier-by : (m n : ℕ) → n < k# → Before m n (k / k#) (k % k#) → m * k# + n < k
        earlier-by m n small (inl less) = omega (arith, earlier m (k / k#) less, whole)
        earlier-by m n small (inr same) = rw same.0 (omega (arith, same.1, whole))

    by-leg : (r : RouteAnswer) → Walked (legs# * k#) r → Outcome f cart waypoints stills lengths slop r
    by-leg _ (passed all) =
        rw (legs-sum legs#)
        (clear (record { each = λ i j leg inside. rw (← in_order i j inside) (all (i * k# + j) (omega (arith, earlier i legs# leg))) }))
    by-leg _ (stopped k inside so before) =
        rw (sum_to (k / k#) (k % k#) k (div-add-mod' k k#) (mod-lt k some)) (ended (k / k#) (k % k#) (first k inside so before))

  -- ---- the answer
  -- where nothing is wrong there is an outline
  pub some-outline : wrong f cart waypoints stills lengths slop ≡ 0 → 0 < k#
  some-outline right = go k# refl
    where
      go : (n : ℕ) → k# ≡ n → 0 < k#
      go zero none =
          absurd (never-right (eqb (length waypoints % 4) 0) (ltb (length waypoints / 4) 2 || ltb 33 (length waypoints / 4)) (rw none at right))
      go (suc n) e = omega arith

  pub route-outcome : wrong f cart waypoints stills lengths slop ≡ 0 → Outcome f cart waypoints stills lengths slop (route f cart waypoints stills lengths slop)
  unfolding route calls
  route-outcome right =
      rw right (by-leg (some-outline right) _ (walked (legs# * k#) 0 0 refl (λ m h. absurd (omega arith)) (legs# * k#) (omega arith)))

  module _ (right : wrong f cart waypoints stills lengths slop ≡ 0) where
    abbrev answer : RouteAnswer
    answer = route f cart waypoints stills lengths slop

    -- clear exactly if every leg is separated from every still outline, and then with all distance calls
    pub clear-only-if : (n : ℕ) → answer ≡ Clear n → AllSeparated f cart waypoints stills lengths slop
    clear-only-if n e = go answer (route-outcome right) e
      where
        go : (r : RouteAnswer) → Outcome f cart waypoints stills lengths slop r → r ≡ Clear n → AllSeparated f cart waypoints stills lengths slop
        go _ (clear all) e = all
        go _ (ended i j first) e = absurd (never-clear f (one i j) _ n first.ends e)

    pub clear-if : AllSeparated f cart waypoints stills lengths slop → answer ≡ Clear (route_calls f cart waypoints stills lengths slop legs#)
    clear-if all = go answer (route-outcome right)
      where
        go : (r : RouteAnswer) → Outcome f cart waypoints stills lengths slop r → r ≡ Clear (route_calls f cart waypoints stills lengths slop legs#)
        go _ (clear all) = refl
        go _ (ended i j first) =
            let so = all.each i j first.leg first.outline in
            let not_so = first.ends in
            absurd (let z : ◌≡◌ {A = ℕ} 0 1 = cc in omega arith)

    -- ---- at most 20 · L · K distance calls are told
    calls-few : (k : ℕ) → calls k ≤ 20 * k
    unfolding calls
    calls-few zero = omega arith
    calls-few (suc k) = omega (arith, calls-few k, few-calls-at f cart waypoints stills lengths slop (k / k#) (k % k#))

    pub at-most-20-a-sweep : calls_told answer ≤ 20 * (legs# * k#)
    unfolding route calls
    at-most-20-a-sweep = rw right (go _ (walked (legs# * k#) 0 0 none (λ m h. absurd (omega arith)) (legs# * k#) (omega arith)))
      where
        none : 0 ≡ calls 0
        none = refl

        go : (r : RouteAnswer) → Walked (legs# * k#) r → calls_told r ≤ 20 * (legs# * k#)
        go _ (passed all) = calls-few (legs# * k#)
        go _ (stopped k inside so before) = rw (ended-calls f (nth k) (stop_at k# k (calls (suc k)))) (omega (arith, calls-few (suc k)))

    -- ---- a refused route is refused by the number of the sweep that ends it
    pub refused-as-swept : (s : Stop) (k : ℕ) → answer ≡ Refused s k → RefusedAt f cart waypoints stills lengths slop k
    refused-as-swept s k e = go answer (route-outcome right) e
      where
        go : (r : RouteAnswer) → Outcome f cart waypoints stills lengths slop r → r ≡ Refused s k → RefusedAt f cart waypoints stills lengths slop k
        go _ (clear all) e = absurd (let z : ◌≡◌ {A = ℕ} 0 1 = cc in omega arith)
        go _ (ended i j first) e = at i j first (refused-by f (one i j) _ s k e)
