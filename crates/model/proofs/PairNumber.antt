-- What the number of a pair decides: refusal 12, last of all, for a cache of another pair that is not empty; and the number that a written cache has. All
-- else is as it was before, and in a sweep 12 cannot occur. Assumes nothing.
use Prim.Native.Nat.{ℕ, zero, suc, ◌≤◌, ◌<◌}
use native.Mathlib.Omega.{arith}
use mathlib.Core.Bool.{Bool, true, false, not, ◌&&◌, cond}
use mathlib.Core.List.{List}
use mathlib.Core.Path.{◌≡◌, refl, sym, ap, ◌∙◌, subst}
use borrow.Author.Tests.{ltb-true, lt-ltb, eqb-false, ne_eqb}
use lib.Dec.{eqb, ltb}
use lib.Ieee.{Float, Format, le}
use Rattle.std.proofs.Common.{Err}
use Rattle.model.specs.declared.Pose.{Pose}
use Rattle.model.specs.declared.Sweep.{Sweep}
use Rattle.model.specs.declared.SimplexCache.{SimplexCache}
use Rattle.model.specs.declared.Ending.{Ending}
use Rattle.model.specs.declared.Ending.TheVariants.{Touching, Settled, RoundLimit}
use Rattle.model.specs.declared.Rounds.{Rounds}
use Rattle.model.specs.declared.Refusal.{Refusal}
use Rattle.model.specs.declared.Distance.{Distance}
use Rattle.model.specs.declared.SweepTask.{SweepTask}
use Rattle.model.specs.declared.Closest.{Closest}
use Rattle.model.specs.declared.Counts.{Counts}
use Rattle.model.specs.declared.SweepAnswer.{SweepAnswer}
use Rattle.model.specs.declared.SweepAnswer.TheVariants.{Refused as NotSwept}
use Rattle.model.specs.Ground as Ground
use Rattle.model.specs.Domain.{pair_refusal, pose_refusal, of_other_pair, cache_refusal, or_else, numbered}
use Rattle.model.specs.Distance.{cache, cache_by, start_simplex, rounds, measure, inputs_refusal, distance_refusal, distance_by, proxy_distance}
use Rattle.model.specs.Separation.{new_separation}
use Rattle.model.specs.SweepToi.{sweep_pair, no_corners, no_counts, called, overlapped, hit, PushEnd, ended, moved, onward, high}
use Rattle.model.specs.SweepToi.{closest_at, push_from, advance_by, advance_from, sweep_task, sweep_refusal, sweep_by, sweep_time_of_impact}
use Rattle.model.specs.PairNumber.{corners, unnumbered, unnumbered_by, unnumbered_distance, checked_from, checked_by, checked_sweep}
use Rattle.model.proofs.Domain.{first-most, pair-at-most-4, pose-at-most-6}
use Rattle.model.proofs.SweepToi.{Counted, sweep-counts-bounded}

-- ---- the check
-- a cache of count 0 passes, whatever its number
pub empty-passes : (pair : ℕ) (c : SimplexCache) → c.count ≡ 0 → cache_refusal pair c ≡ 0
empty-passes pair c e = rw e

own-is-not-other : (pair : ℕ) (c : SimplexCache) → c.pair ≡ pair → of_other_pair pair c ≡ false
own-is-not-other pair c e = go (ltb 0 c.count) (eqb c.pair pair) refl
  where
    go : (t u : Bool) → eqb c.pair pair ≡ u → (t && not u) ≡ false
    go false u h = refl
    go true true h = refl
    go true false h = absurd (eqb-false c.pair pair h e)

-- and so does one of the caller's number, valid or not
pub own-passes : (pair : ℕ) (c : SimplexCache) → c.pair ≡ pair → cache_refusal pair c ≡ 0
own-passes pair c e = rw (own-is-not-other pair c e)

refused-test : (t u : Bool) → ◌≡◌ {A = ℕ} (cond (t && not u) 12 0) 12 → (t ≡ true) × (u ≡ false)
refused-test true false e = (refl, refl)
refused-test true true e = absurd (omega (arith, e))
refused-test false u e = absurd (omega (arith, e))

-- ---- the distance call
last-of-all : (m n : ℕ) → m ≤ 6 → or_else m n ≡ 12 → (m ≡ 0) × (n ≡ 12)
last-of-all zero n h e = (refl, e)
last-of-all (suc m) n h e = absurd (omega (arith, h, e))

module _ (f : Format) (p : Pose) (a : List Float) (ra : Float) (b : List Float) (rb : Float) (radii : Bool) (pair : ℕ) (c : SimplexCache) where
  abbrev call : Distance
  call = proxy_distance f p a ra b rb radii pair c

  abbrev by : ℕ → Distance
  by k = distance_by f p a ra b rb radii pair c k

  -- all else passes, and the cache names corners of a pair with another number
  pub record ByNumberAlone : Type 0 where
    pub inputs-pass : inputs_refusal f p a ra b rb ≡ 0
    pub some-corners : 0 < c.count
    pub other-number : c.pair ≡ pair → ⊥

  -- then the call is refused by 12
  pub other-pair-refused : ByNumberAlone → call.answer ≡ Err (numbered 12)
  unfolding proxy_distance
  other-pair-refused h = ap (λ (k : ℕ). (by k).answer) twelve
    where
      behind : (m n : ℕ) → m ≡ 0 → n ≡ 12 → or_else m n ≡ 12
      behind m n e g = rw (e, g)

      other : cache_refusal pair c ≡ 12
      other = rw (lt-ltb 0 c.count h.some-corners, ne_eqb c.pair pair h.other-number)

      twelve : distance_refusal f p a ra b rb pair c ≡ 12
      twelve = behind (inputs_refusal f p a ra b rb) (cache_refusal pair c) h.inputs-pass other

  -- and only then
  pub refused-by-12-only-then : call.answer ≡ Err (numbered 12) → ByNumberAlone
  unfolding proxy_distance
  refused-by-12-only-then e =
      let few = first-most 6 (pair_refusal f a b ra rb) (pose_refusal f p) (omega (arith, pair-at-most-4 f a b ra rb)) (pose-at-most-6 f p) in
      let (pass, other) = last-of-all (inputs_refusal f p a ra b rb) (cache_refusal pair c) few (number (distance_refusal f p a ra b rb pair c) e) in
      let (some, unlike) = refused-test (ltb 0 c.count) (eqb c.pair pair) other in
      record { inputs-pass = pass; some-corners = ltb-true _ _ some; other-number = eqb-false _ _ unlike }
    where
      number : (k : ℕ) → (by k).answer ≡ Err (numbered 12) → k ≡ 12
      number zero e = absurd (let z : ◌≡◌ {A = ℕ} 0 1 = cc in omega arith)
      number (suc k) e = let same : numbered (suc k) ≡ numbered 12 = cc in ap (λ (r : Refusal). r.number) same

  -- ---- the call before
  same-corners : (e : Ending) (r : Rounds) → corners (cache_by e pair c r) ≡ corners (cache_by e 0 (cache 0 c.count c.index_a c.index_b) r)
  same-corners Touching r = refl
  same-corners Settled r = refl
  same-corners RoundLimit r = refl

  -- A call that is not refused by 12 answers, and leaves of the cache without its number, what the call did before caches had one.
  pub as_before : (call.answer ≡ Err (numbered 12) → ⊥) → unnumbered call ≡ unnumbered_distance f p a ra b rb radii (corners c)
  unfolding proxy_distance unnumbered_distance measure start_simplex
  as_before not-12 = go (inputs_refusal f p a ra b rb) (of_other_pair pair c) not-12
    where
      go : (m : ℕ) (t : Bool) → ((by (or_else m (cond t 12 0))).answer ≡ Err (numbered 12) → ⊥) →
          unnumbered (by (or_else m (cond t 12 0))) ≡ unnumbered_by f p a ra b rb radii (corners c) m
      go zero true h = absurd (h refl)
      go zero false h = rw (same-corners (rounds f a b p c).ending (rounds f a b p c))
      go (suc m) t h = refl

  -- ---- what is handed on
  -- from a cache of the caller's number comes one of that number, written or not
  number-left : c.pair ≡ pair → (measure f p a ra b rb radii pair c).cache.pair ≡ pair
  unfolding measure
  number-left own = by-ending (rounds f a b p c).ending (rounds f a b p c)
    where
      by-ending : (e : Ending) (r : Rounds) → (cache_by e pair c r).pair ≡ pair
      by-ending Touching r = own
      by-ending Settled r = refl
      by-ending RoundLimit r = refl

-- ---- the sweep
module _ (f : Format) (w : SweepTask) (a b : List Float) where
  -- a call with the sweep's number hands on a cache of that number
  number-kept : (t : Float) (c : SimplexCache) → c.pair ≡ sweep_pair → (closest_at f w a b t c).cache.pair ≡ sweep_pair
  unfolding closest_at
  number-kept t c e = number-left f _ a w.radius_a b w.radius_b false sweep_pair c e

  onward-alike : (x : PushEnd) (go go' : Float → Counts → SweepAnswer) → ((t : Float) (n : Counts) → go t n ≡ go' t n) → onward x go ≡ onward x go'
  onward-alike (ended y) go go' h = refl
  onward-alike (moved t n) go go' h = h t n

  advance-alike : (t1 : Float) (x : Closest) (n : Counts) (go go' : Float → Counts → SweepAnswer) → ((t : Float) (m : Counts) → go t m ≡ go' t m) →
      advance_by f w a b t1 x n go ≡ advance_by f w a b t1 x n go'
  advance-alike t1 x n go go' h =
      ap (λ (y : SweepAnswer). cond (le x.distance (Ground.zero f)) (overlapped n) (cond (le x.distance (high f w)) (hit t1 x n) y))
      (onward-alike (push_from f w a b (new_separation f w.sweep_a w.sweep_b a b x.cache t1) t1 x 8 w.t_max n) go go' h)

  checked-alike : (k : ℕ) (t1 : Float) (c : SimplexCache) (n : Counts) → c.pair ≡ sweep_pair → checked_from f w a b k t1 c n ≡ advance_from f w a b k t1 c n
  unfolding checked_from advance_from
  checked-alike zero t1 c n e = rw (own-is-not-other sweep_pair c e)
  checked-alike (suc k) t1 c n e =
      rw (own-is-not-other sweep_pair c e)
      (advance-alike t1 (closest_at f w a b t1 c) (called n) _ _ (λ t m. checked-alike k t (closest_at f w a b t1 c).cache m (number-kept t1 c e)))

module _ (f : Format) (a : List Float) (ra : Float) (wa : Sweep) (b : List Float) (rb : Float) (wb : Sweep) (tmax slop : Float) where
  -- looking at the number before each call changes no sweep
  pub every-call-of-a-sweep-passes-12 : checked_sweep f a ra wa b rb wb tmax slop ≡ sweep_time_of_impact f a ra wa b rb wb tmax slop
  unfolding checked_sweep sweep_time_of_impact
  every-call-of-a-sweep-passes-12 = go (sweep_refusal f a ra wa b rb wb tmax slop)
    where
      go : (k : ℕ) → checked_by f a ra wa b rb wb tmax slop k ≡ sweep_by f a ra wa b rb wb tmax slop k
      go zero = checked-alike f (sweep_task f ra wa rb wb tmax slop) a b 19 (Ground.zero f) no_corners no_counts refl
      go (suc k) = refl

  -- and no sweep is answered by 12
  pub no-sweep-refused-by-12 : sweep_time_of_impact f a ra wa b rb wb tmax slop ≡ NotSwept 12 → ⊥
  no-sweep-refused-by-12 e =
      let few : 12 ≤ 8 = subst Counted e (sweep-counts-bounded f a ra wa b rb wb tmax slop) in
      omega (arith, few)
