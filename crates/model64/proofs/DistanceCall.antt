-- Written by tests/written/wide.py from model, in f64.
-- What a distance call does with its cache, and how long it takes. P below says of a vertex what no weight changes. Assumes nothing.
use Prim.Native.Nat.{ℕ, zero, suc, ◌+◌, ◌/◌, ◌%◌, ◌≤◌, ◌<◌}
use native.Mathlib.Omega.{arith}
use mathlib.Core.Bool.{Bool, true, false, ◌&&◌, ◌||◌, cond}
use mathlib.Core.List.{List, [], ◌∷◌}
use mathlib.Core.Path.{◌≡◌, refl, sym, ap, ◌∙◌}
use borrow.Author.Tests.{ltb-true, leb-true, eqb-true, eqb-false}
use lib.Dec.{T, eqb, ltb, leb}
use lib.ListN.{get_or, set, length, length-set}
use lib.Seq.{get_or-set_same, get_or-set_other}
use lib.Ieee.{Float, Format, neg, lt}
use Rattle.std.proofs.Common.{Ok, Err}
use Rattle.model64.specs.declared.Vector.{Vector}
use Rattle.model64.specs.declared.Pose.{Pose}
use Rattle.model64.specs.declared.SimplexVertex.{SimplexVertex}
use Rattle.model64.specs.declared.Solved.{Solved}
use Rattle.model.specs.declared.SimplexCache.{SimplexCache}
use Rattle.model.specs.declared.Ending.{Ending}
use Rattle.model.specs.declared.Ending.TheVariants.{Touching, Settled, RoundLimit}
use Rattle.model64.specs.declared.Rounds.{Rounds}
use Rattle.model64.specs.declared.WitnessPoints.{WitnessPoints}
use Rattle.model64.specs.declared.ProxyDistanceOutput.{ProxyDistanceOutput}
use Rattle.model64.specs.declared.Measurement.{Measurement}
use Rattle.model64.specs.declared.Distance.{Distance}
use Rattle.model.specs.declared.Refusal.{Refusal}
use Rattle.model64.specs.Ground.{one, origin, dot}
use Rattle.model.specs.Domain.{bad_outline}
use Rattle.model64.specs.Simplex.{slot, weighted, solve}
use Rattle.model.specs.Distance.{all_below, cache_is_valid, replaced, from_cache}
use Rattle.model64.specs.Distance.{written, blank, held, ended, touches, vertex, cached, start_simplex}
use Rattle.model.specs.Distance.{start_count}
use Rattle.model64.specs.Distance.{support_a, support_b, extended, rounds_from, rounds, witness_points, apart, measured_by, cache_by, measured_from}
use Rattle.model64.specs.Distance.{measure, distance_refusal, distance_by, proxy_distance}
use Rattle.model64.proofs.Domain.{test-passed, neither-refused}
use Rattle.model64.proofs.Support.{support-is-a-point}
use Rattle.model64.proofs.Simplex.{by-test, by-known-test, Held, single, pair, triple, held-some, held-most, solve-held}

-- ---- tests
no-such-test : {A : Type 0} → false ≡ true → A
no-such-test e = absurd (let z : ◌≡◌ {A = ℕ} 0 1 = cc in omega arith)

pub both : (a b : Bool) → (a && b) ≡ true → (a ≡ true) × (b ≡ true)
both true b e = (refl, e)
both false b e = no-such-test e

pub neither : (a b : Bool) → (a || b) ≡ false → (a ≡ false) × (b ≡ false)
neither false b e = (refl, e)
neither true b e = no-such-test (sym e)

-- ---- the rounds hold on to P
module _ (P : SimplexVertex → Type 0) (stays : (v : SimplexVertex) (x : Float) → P v → P (weighted v x)) where
  -- a vertex put behind what is held, not counted
  placed : {s : List SimplexVertex} {n : ℕ} (v : SimplexVertex) → Held P s n → (n ≡ 3 → ⊥) → Held P (set s n v) n
  placed v (single p) h = single p
  placed v (pair p q) h = pair p q
  placed v (triple p q r) h = absurd (h refl)

  -- and counted
  added : {s : List SimplexVertex} {n : ℕ} (v : SimplexVertex) → P v → Held P s n → (n ≡ 3 → ⊥) → Held P (set s n v) (n + 1)
  added v y (single p) h = pair p y
  added v y (pair p q) h = triple p q y
  added v y (triple p q r) h = absurd (h refl)

  -- a start from n entries
  started : (n : ℕ) (u : ℕ → SimplexVertex) (z : SimplexVertex) → 1 ≤ n → n ≤ 3 → ((i : ℕ) → i < n → P (u i)) →
      Held P (cond (ltb 0 n) (u 0) z ∷ cond (ltb 1 n) (u 1) z ∷ cond (ltb 2 n) (u 2) z ∷ []) n
  started zero u z h k p = absurd (omega (arith, h))
  started (suc zero) u z h k p = single (p 0 (omega arith))
  started (suc (suc zero)) u z h k p = pair (p 0 (omega arith)) (p 1 (omega arith))
  started (suc (suc (suc zero))) u z h k p = triple (p 0 (omega arith)) (p 1 (omega arith)) (p 2 (omega arith))
  started (suc (suc (suc (suc n)))) u z h k p = absurd (omega (arith, k))

  module _ (f : Format) (a b : List Float) (p : Pose) where
    abbrev HeldAtEnd : Rounds → Type 0
    HeldAtEnd r = Held P r.simplex r.count

    pub rounds-hold : ((d : Vector) (x : Float) → P (vertex f a b p (support_a f a d) (support_b f b p d) x)) →
        (k : ℕ) (s : List SimplexVertex) (n : ℕ) (d : Vector) (it : ℕ) → Held P s n → HeldAtEnd (rounds_from f a b p k s n d it)
    unfolding rounds_from
    rounds-hold new zero s n d it h = h
    rounds-hold new (suc k) s n d it h =
        let r = solve f s n in
        let held_by : Held P r.simplex r.count = solve-held P f stays h in
        by-known-test HeldAtEnd (touches f r) (λ e. held_by)
        (λ e.
        let free : r.count ≡ 3 → ⊥ = eqb-false _ _ (neither _ _ e).0 in
        by-test HeldAtEnd (held s n (support_a f a r.direction) (support_b f b p r.direction))
        (placed _ held_by free)
        (rounds-hold new k _ _ _ _ (added _ (new _ _) held_by free)))

    pub start-holds : (c : SimplexCache)
        → (cache_is_valid c (length a / 2) (length b / 2) ≡ true → (i : ℕ) → i < c.count
        → P (vertex f a b p (get_or c.index_a i 0) (get_or c.index_b i 0) (neg (one f)))) →
        P (vertex f a b p 0 0 (one f)) → Held P (start_simplex f a b p c) (start_count c (length a / 2) (length b / 2))
    unfolding start_simplex
    start-holds c entry corner = go (from_cache c (length a / 2) (length b / 2)) refl
      where
        go : (t : Bool) → from_cache c (length a / 2) (length b / 2) ≡ t
            → Held P (cond t (cached f a b p c 0 ∷ cached f a b p c 1 ∷ cached f a b p c 2 ∷ []) (vertex f a b p 0 0 (one f) ∷ blank f ∷ blank f ∷ []))
            (cond t c.count 1)
        go true e =
            let some = both _ _ e in
            let valid = both _ _ (both _ _ some.1).0 in
            started c.count (λ i. vertex f a b p (get_or c.index_a i 0) (get_or c.index_b i 0) (neg (one f))) (blank f)
            (ltb-true _ _ some.0) (leb-true _ _ valid.0) (entry some.1)
        go false e = single corner

-- ---- the entries of a cache
up_to : (i n : ℕ) {Q : Type 0} → i < suc n → (i ≡ n → Q) → (i < n → Q) → Q
up_to i n {Q} h p q = pick (eqb i n) refl
  where
    pick : (t : Bool) → eqb i n ≡ t → Q
    pick true y = p (eqb-true i n y)
    pick false y = let other = eqb-false i n y in q (omega (arith, h, other))

below_each : (limit : ℕ) (l : List ℕ) (n : ℕ) → all_below limit l n ≡ true → (i : ℕ) → i < n → get_or l i 0 < limit
unfolding all_below
below_each limit l zero e i h = absurd (omega (arith, h))
below_each limit l (suc n) e i h =
    let parts = both (all_below limit l n) (ltb (get_or l n 0) limit) e in
    up_to i n h (λ y. rw y (ltb-true _ _ parts.1)) (λ y. below_each limit l n parts.0 i y)

valid-entry : (c : SimplexCache) (na nb : ℕ) → cache_is_valid c na nb ≡ true → (i : ℕ) → i < c.count → (get_or c.index_a i 0 < na)
    × (get_or c.index_b i 0 < nb)
valid-entry c na nb e i h =
    let outer = both (leb c.count 3 && all_below na c.index_a c.count) (all_below nb c.index_b c.count) e in
    let inner = both (leb c.count 3) (all_below na c.index_a c.count) outer.0 in
    (below_each na c.index_a c.count inner.1 i h, below_each nb c.index_b c.count outer.1 i h)

valid-count : (c : SimplexCache) (na nb : ℕ) → cache_is_valid c na nb ≡ true → c.count ≤ 3
valid-count c na nb e =
    let outer = both (leb c.count 3 && all_below na c.index_a c.count) (all_below nb c.index_b c.count) e in
    leb-true c.count 3 (both (leb c.count 3) (all_below na c.index_a c.count) outer.0).0

pub start-count-most : (c : SimplexCache) (na nb : ℕ) → start_count c na nb ≤ 3
start-count-most c na nb = go (from_cache c na nb) refl
  where
    go : (t : Bool) → from_cache c na nb ≡ t → cond t c.count 1 ≤ 3
    go true e = valid-count c na nb (both (ltb 0 c.count) (cache_is_valid c na nb) e).1
    go false e = omega arith

replaced-length : (l : List ℕ) (n : ℕ) (g : ℕ → ℕ) → length (replaced l n g) ≡ length l
unfolding replaced
replaced-length l zero g = refl
replaced-length l (suc n) g = length-set (replaced l n g) n (g n) ∙ replaced-length l n g

-- past the count nothing changes
replaced-past : (l : List ℕ) (n : ℕ) (g : ℕ → ℕ) (i : ℕ) → n ≤ i → get_or (replaced l n g) i 0 ≡ get_or l i 0
unfolding replaced
replaced-past l zero g i h = refl
replaced-past l (suc n) g i h =
    get_or-set_other (replaced l n g) n i (g n) 0 (λ e. omega (arith, e, h)) ∙ replaced-past l n g i (omega (arith, h))

-- before it stands the new entry
replaced-before : (l : List ℕ) (n : ℕ) (g : ℕ → ℕ) (i : ℕ) → n ≤ length l → i < n → get_or (replaced l n g) i 0 ≡ g i
unfolding replaced
replaced-before l zero g i k h = absurd (omega (arith, h))
replaced-before l (suc n) g i k h =
    up_to i n h
    (λ y. rw y (get_or-set_same (replaced l n g) n (g n) 0 (rw (replaced-length l n g) (omega (arith, k)))))
    (λ y. get_or-set_other (replaced l n g) n i (g n) 0 (λ e. omega (arith, e, y)) ∙ replaced-before l n g i (omega (arith, k)) y)

-- ---- the rounds
held-each : {P : SimplexVertex → Type 0} {s : List SimplexVertex} {n : ℕ} → Held P s n → (i : ℕ) → i < n → P (slot s i)
held-each (single p) zero h = p
held-each (single p) (suc i) h = absurd (omega (arith, h))
held-each (pair p q) zero h = p
held-each (pair p q) (suc zero) h = q
held-each (pair p q) (suc (suc i)) h = absurd (omega (arith, h))
held-each (triple p q r) zero h = p
held-each (triple p q r) (suc zero) h = q
held-each (triple p q r) (suc (suc zero)) h = r
held-each (triple p q r) (suc (suc (suc i))) h = absurd (omega (arith, h))

module _ (f : Format) (a b : List Float) (p : Pose) where
  rounds-few : (k : ℕ) (s : List SimplexVertex) (n : ℕ) (d : Vector) (it : ℕ) → (rounds_from f a b p k s n d it).iterations ≤ it + k
  unfolding rounds_from
  rounds-few zero s n d it = omega arith
  rounds-few (suc k) s n d it =
      let r = solve f s n in
      let Few : Rounds → Type 0 = λ e. e.iterations ≤ it + suc k in
      by-test Few (touches f r) (omega arith)
      (by-test Few (held s n (support_a f a r.direction) (support_b f b p r.direction))
      (omega arith)
      (omega (arith, rounds-few k (extended f a b p r) (r.count + 1) r.direction (it + 1))))

  module _ (c : SimplexCache) where
    -- some vertex is held at the end, and at most three
    rounds-held : Held (λ v. T true) (rounds f a b p c).simplex (rounds f a b p c).count
    rounds-held =
        rounds-hold (λ v. T true) (λ v x y. tt) f a b p (λ d x. tt) 20 _ _ _ 0
        (start-holds (λ v. T true) (λ v x y. tt) f a b p c (λ e i h. tt) tt)

    pub rounds-count-some : 1 ≤ (rounds f a b p c).count
    rounds-count-some = held-some (λ v. T true) rounds-held

    pub rounds-count-most : (rounds f a b p c).count ≤ 3
    rounds-count-most = held-most (λ v. T true) rounds-held

    abbrev Within : SimplexVertex → Type 0
    Within v = (v.index_a < length a / 2) × (v.index_b < length b / 2)

    -- and each is a corner pair of the two lists
    rounds-within : 1 < length a → 1 < length b → Held Within (rounds f a b p c).simplex (rounds f a b p c).count
    unfolding vertex
    rounds-within ha hb =
        rounds-hold Within (λ v x y. y) f a b p (λ d x. (support-is-a-point f a d ha, support-is-a-point f b _ hb)) 20 _ _ _ 0
        (start-holds Within (λ v x y. y) f a b p c
        (λ e i h. valid-entry c (length a / 2) (length b / 2) e i h)
        (omega arith, omega arith))

-- ---- the measurement, with nothing checked
apart-ending : (f : Format) (radii : Bool) (ra rb : Float) (w : WitnessPoints) (r : Rounds) → (apart f radii ra rb w r).ending ≡ r.ending
apart-ending f true ra rb w r = refl
apart-ending f false ra rb w r = refl

apart-iterations : (f : Format) (radii : Bool) (ra rb : Float) (w : WitnessPoints) (r : Rounds) → (apart f radii ra rb w r).iterations ≡ r.iterations
apart-iterations f true ra rb w r = refl
apart-iterations f false ra rb w r = refl

module _ (f : Format) (p : Pose) (a : List Float) (ra : Float) (b : List Float) (rb : Float) (radii : Bool) (pair : ℕ) (c : SimplexCache) where
  abbrev last : Rounds
  last = rounds f a b p c

  abbrev measured : Measurement
  measured = measure f p a ra b rb radii pair c

  by-ending : (e : Ending) (w : WitnessPoints) (r : Rounds) → (measured_by f e radii ra rb w r).ending ≡ r.ending
  by-ending Touching w r = refl
  by-ending Settled w r = apart-ending f radii ra rb w r
  by-ending RoundLimit w r = apart-ending f radii ra rb w r

  by-iterations : (e : Ending) (w : WitnessPoints) (r : Rounds) → (measured_by f e radii ra rb w r).iterations ≡ r.iterations
  by-iterations Touching w r = refl
  by-iterations Settled w r = apart-iterations f radii ra rb w r
  by-iterations RoundLimit w r = apart-iterations f radii ra rb w r

  by-touching : (e : Ending) (r : Rounds) → e ≡ Touching → cache_by e pair c r ≡ c
  by-touching e r y = rw y

  by-other : (e : Ending) (r : Rounds) → (e ≡ Touching → ⊥) → cache_by e pair c r ≡ written pair c r.simplex r.count
  by-other Touching r n = absurd (n refl)
  by-other Settled r n = refl
  by-other RoundLimit r n = refl

  measured-ending : measured.output.ending ≡ last.ending
  unfolding measure
  measured-ending = by-ending last.ending (witness_points f last.simplex last.count) last

  pub measure-touching-keeps-cache : measured.output.ending ≡ Touching → measured.cache ≡ c
  unfolding measure
  measure-touching-keeps-cache e = by-touching last.ending last (sym measured-ending ∙ e)

  module _ (other : measured.output.ending ≡ Touching → ⊥) where
    measured-cache : measured.cache ≡ written pair c last.simplex last.count
    unfolding measure
    measured-cache = by-other last.ending last (λ e. other (measured-ending ∙ e))

    pub measure-count : (1 ≤ measured.cache.count) × (measured.cache.count ≤ 3)
    measure-count = rw measured-cache (rounds-count-some f a b p c, rounds-count-most f a b p c)

    pub measure-writes-number : measured.cache.pair ≡ pair
    measure-writes-number = rw measured-cache

    pub measure-keeps-entries-past-count : (i : ℕ) → measured.cache.count ≤ i →
        (get_or measured.cache.index_a i 0 ≡ get_or c.index_a i 0) × (get_or measured.cache.index_b i 0 ≡ get_or c.index_b i 0)
    measure-keeps-entries-past-count i h =
        let k : last.count ≤ i = rw measured-cache at h in
        rw measured-cache (replaced-past _ _ _ i k, replaced-past _ _ _ i k)

    pub measure-writes-corners : 1 < length a → 1 < length b → length c.index_a ≡ 3 → length c.index_b ≡ 3 → (i : ℕ) → i < measured.cache.count →
        (get_or measured.cache.index_a i 0 < length a / 2) × (get_or measured.cache.index_b i 0 < length b / 2)
    measure-writes-corners ha hb la lb i h =
        let k : i < last.count = rw measured-cache at h in
        let most = rounds-count-most f a b p c in
        let corner = held-each (rounds-within f a b p c ha hb) i k in
        rw (
          measured-cache,
          replaced-before c.index_a last.count (λ j. (slot last.simplex j).index_a) i (rw la most) k,
          replaced-before c.index_b last.count (λ j. (slot last.simplex j).index_b) i (rw lb most) k,
        ) corner

  pub measure-rounds : measured.output.iterations ≤ 20
  unfolding measure
  measure-rounds =
      rw (by-iterations last.ending (witness_points f last.simplex last.count) last)
      (rounds-few f a b p 20 (start_simplex f a b p c) (start_count c (length a / 2) (length b / 2)) (origin f) 0)

-- ---- the checked call
-- an outline that passes has a point
pub outline-has-a-point : (s : List Float) → bad_outline s ≡ false → 1 < length s
outline-has-a-point s e =
    let outer = neither (eqb (length s) 0 || eqb (length s % 2) 1) (ltb 128 (length s)) e in
    let inner = neither (eqb (length s) 0) (eqb (length s % 2) 1) outer.0 in
    let some = eqb-false (length s) 0 inner.0 in
    let even = eqb-false (length s % 2) 1 inner.1 in
    omega (arith, some, even)

module _ (f : Format) (p : Pose) (a : List Float) (ra : Float) (b : List Float) (rb : Float) (radii : Bool) (pair : ℕ) (c : SimplexCache) where
  abbrev call : Distance
  call = proxy_distance f p a ra b rb radii pair c

  abbrev by : ℕ → Distance
  by k = distance_by f p a ra b rb radii pair c k

  by-refused : (k : ℕ) (r : Refusal) → (by k).answer ≡ Err r → (by k).cache ≡ c
  by-refused zero r e = absurd (let z : ◌≡◌ {A = ℕ} 0 1 = cc in omega arith)
  by-refused (suc k) r e = refl

  -- a refusal hands the cache back as it came, number and all
  pub refused-keeps-cache : (r : Refusal) → call.answer ≡ Err r → call.cache ≡ c
  unfolding proxy_distance
  refused-keeps-cache r e = by-refused (distance_refusal f p a ra b rb pair c) r e

  record Answered (o : ProxyDistanceOutput) (k : ℕ) : Type 0 where
    output : o ≡ (measure f p a ra b rb radii pair c).output
    cache : (by k).cache ≡ (measure f p a ra b rb radii pair c).cache
    none : k ≡ 0

  by-answered : (o : ProxyDistanceOutput) (k : ℕ) → (by k).answer ≡ Ok o → Answered o k
  by-answered o zero e = record { output = cc; cache = refl; none = refl }
  by-answered o (suc k) e = absurd (let z : ◌≡◌ {A = ℕ} 0 1 = cc in omega arith)

  module _ (o : ProxyDistanceOutput) (e : call.answer ≡ Ok o) where
    answered : Answered o (distance_refusal f p a ra b rb pair c)
    unfolding proxy_distance
    answered = by-answered o (distance_refusal f p a ra b rb pair c) e

    cache-is : call.cache ≡ (measure f p a ra b rb radii pair c).cache
    unfolding proxy_distance
    cache-is = answered.cache

    -- outlines that were measured have points
    outlines : (1 < length a) × (1 < length b)
    outlines =
        let pair-passed = (neither-refused _ _ (neither-refused _ _ answered.none).0).0 in
        let after-a = test-passed (bad_outline a) 0 _ pair-passed in
        let after-b = test-passed (bad_outline b) 1 _ after-a.1 in
        (outline-has-a-point a after-a.0, outline-has-a-point b after-b.0)

    -- Touching leaves the cache as it came, number and all
    pub touching-keeps-cache : o.ending ≡ Touching → call.cache ≡ c
    touching-keeps-cache t =
        cache-is ∙ measure-touching-keeps-cache f p a ra b rb radii pair c (ap (λ (x : ProxyDistanceOutput). x.ending) (sym answered.output) ∙ t)

    -- at most 20 rounds
    pub rounds-at-most-20 : o.iterations ≤ 20
    rounds-at-most-20 = rw answered.output (measure-rounds f p a ra b rb radii pair c)

    -- after Settled or the round limit
    module _ (other : o.ending ≡ Touching → ⊥) where
      other-measured : (measure f p a ra b rb radii pair c).output.ending ≡ Touching → ⊥
      other-measured t = other (ap (λ (x : ProxyDistanceOutput). x.ending) answered.output ∙ t)

      -- the cache has one to three entries
      pub written_count : (1 ≤ call.cache.count) × (call.cache.count ≤ 3)
      written_count = rw cache-is (measure-count f p a ra b rb radii pair c other-measured)

      -- and the caller's number
      pub written-number : call.cache.pair ≡ pair
      written-number = rw cache-is (measure-writes-number f p a ra b rb radii pair c other-measured)

      -- each before the count names a point of A and a point of B
      pub written-entries-are-points : length c.index_a ≡ 3 → length c.index_b ≡ 3 → (i : ℕ) → i < call.cache.count →
          (get_or call.cache.index_a i 0 < length a / 2) × (get_or call.cache.index_b i 0 < length b / 2)
      written-entries-are-points la lb i h =
          rw cache-is (measure-writes-corners f p a ra b rb radii pair c other-measured outlines.0 outlines.1 la lb i (rw cache-is at h))

      -- each at or past the count is as it was
      pub entries-past-count-stay : (i : ℕ) → call.cache.count ≤ i →
          (get_or call.cache.index_a i 0 ≡ get_or c.index_a i 0) × (get_or call.cache.index_b i 0 ≡ get_or c.index_b i 0)
      entries-past-count-stay i h =
          rw cache-is (measure-keeps-entries-past-count f p a ra b rb radii pair c other-measured i (rw cache-is at h))
