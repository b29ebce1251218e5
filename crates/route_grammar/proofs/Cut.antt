-- An outline of more than 64 points is refused by its length alone, so that a route whose lines are cut to 129 numbers has the answer of the whole one.
-- Assumes nothing.
use mathlib.Core.Path.{◌≡◌, refl, sym, ap, ◌∙◌}
use mathlib.Core.Bool.{Bool, true, false, cond, ◌||◌}
use mathlib.Core.List.{List, [], ◌∷◌, map}
use mathlib.Core.Logic.{◌⊎◌, inl, inr}
use Prim.Native.Nat.{ℕ, zero, suc, ◌+◌, ◌-◌, ◌*◌, ◌/◌, ◌%◌, ◌≤◌, ◌<◌}
use native.Mathlib.Omega.{arith}
use native.Mathlib.Nat.{mod-lt}
use borrow.Author.Tests.{lt-ltb, le-ltb, ltb-true, ltb-false, eq-eqb, ne_eqb}
use lib.Dec.{eqb, ltb}
use lib.Ieee.{Float, Format}
use lib.ListN.{length, take, get_or, length-append, length-map, get_or-map}
use lib.Seq.{take_all, length-take-le, take-append_seam, drop-append-add}
use Rattle.model.specs.declared.Sweep.{Sweep}
use Rattle.model.specs.declared.SweepAnswer.{SweepAnswer}
use Rattle.model.specs.declared.SweepAnswer.TheVariants as Swept
use Rattle.model.specs.Domain.{bad_outline, pair_refusal}
use Rattle.model.specs.SweepToi.{sweep_time_of_impact}
use Rattle.route_legs.specs.declared.RouteAnswer.{RouteAnswer}
use Rattle.route_legs.specs.declared.RouteAnswer.TheVariants.{Wrong}
use Rattle.route_legs.specs.Route.{start_of, outline_at, is_separated, calls_of, ended_by, stop_at, sweep_at, walk_from, wrong, route}
use Rattle.route_grammar.specs.Grammar.{joined, sizes}

-- ---- a sweep
or-last : (p q : Bool) → (p || q || true) ≡ true
or-last true q = refl
or-last false true = refl
or-last false false = refl

or-true : (p : Bool) → (p || true) ≡ true
or-true true = refl
or-true false = refl

bad-long : (s : List Float) → 128 < length s → bad_outline s ≡ true
bad-long s long = rw (lt-ltb 128 (length s) long) (or-last (eqb (length s) 0) (eqb (length s % 2) 1))

cut-long : (s : List Float) → 129 ≤ length s → bad_outline (take 129 s) ≡ true
cut-long s long = bad-long (take 129 s) (rw (length-take-le 129 s long) (omega arith))

module _ (f : Format) (ra : Float) (wa : Sweep) (rb : Float) (wb : Sweep) (tmax slop : Float) where
  refused : (a b : List Float) (k : ℕ) → pair_refusal f a b ra rb ≡ suc k → sweep_time_of_impact f a ra wa b rb wb tmax slop ≡ Swept.Refused (suc k)
  unfolding sweep_time_of_impact
  refused a b k e = rw e

  first-bad : (a b : List Float) → bad_outline a ≡ true → sweep_time_of_impact f a ra wa b rb wb tmax slop ≡ Swept.Refused 1
  first-bad a b e = refused a b 0 (rw e)

  second-bad : (a b b' : List Float) → bad_outline b ≡ true → bad_outline b' ≡ true →
      sweep_time_of_impact f a ra wa b rb wb tmax slop ≡ sweep_time_of_impact f a ra wa b' rb wb tmax slop
  second-bad a b b' e e' = go (bad_outline a) refl
    where
      go : (t : Bool) → bad_outline a ≡ t → sweep_time_of_impact f a ra wa b rb wb tmax slop ≡ sweep_time_of_impact f a ra wa b' rb wb tmax slop
      go true h = first-bad a b h ∙ sym (first-bad a b' h)
      go false h = refused a b 1 (rw (h, e)) ∙ sym (refused a b' 1 (rw (h, e')))

  sweep-cut : (a b : List Float) → sweep_time_of_impact f (take 129 a) ra wa (take 129 b) rb wb tmax slop ≡ sweep_time_of_impact f a ra wa b rb wb tmax slop
  sweep-cut a b = first (ltb 129 (length a)) refl
    where
      second : (t : Bool) → ltb 129 (length b) ≡ t → sweep_time_of_impact f a ra wa (take 129 b) rb wb tmax slop ≡ sweep_time_of_impact f a ra wa b rb wb tmax slop
      second true e =
          let long : 129 < length b = ltb-true 129 (length b) e in
          second-bad a (take 129 b) b (cut-long b (omega arith)) (bad-long b (omega arith))
      second false e = rw (take_all 129 b (ltb-false 129 (length b) e))

      first : (t : Bool) → ltb 129 (length a) ≡ t
          → sweep_time_of_impact f (take 129 a) ra wa (take 129 b) rb wb tmax slop ≡ sweep_time_of_impact f a ra wa b rb wb tmax slop
      first true e =
          let long : 129 < length a = ltb-true 129 (length a) e in
          first-bad (take 129 a) (take 129 b) (cut-long a (omega arith)) ∙ sym (first-bad a b (bad-long a (omega arith)))
      first false e = rw (take_all 129 a (ltb-false 129 (length a) e)) (second (ltb 129 (length b)) refl)

-- ---- outlines one behind another
pub as-many-sizes : (ss : List (List Float)) → length (sizes ss) ≡ length ss
unfolding sizes
as-many-sizes [] = refl
as-many-sizes (s ∷ ss) = ap suc (as-many-sizes ss)

start-behind : (n : ℕ) (ns : List ℕ) (j : ℕ) → start_of (n ∷ ns) (suc j) ≡ n + start_of ns j
unfolding start_of
start-behind n ns zero = omega arith
start-behind n ns (suc j) = omega (arith, start-behind n ns j)

pub all-sizes : (ss : List (List Float)) → start_of (sizes ss) (length (sizes ss)) ≡ length (joined ss)
unfolding sizes joined start_of
all-sizes [] = refl
all-sizes (s ∷ ss) = start-behind (length s) (sizes ss) (length (sizes ss)) ∙ rw (length-append s (joined ss)) (omega (arith, all-sizes ss))

no_start : (ns : List ℕ) → start_of ns 0 ≡ 0
unfolding start_of
no_start ns = refl

outline-is : (ss : List (List Float)) (j : ℕ) → j < length ss → outline_at (joined ss) (sizes ss) j ≡ get_or ss j []
unfolding sizes joined
outline-is [] j inside = absurd (omega (arith, inside))
outline-is (s ∷ ss) zero inside = rw (no_start (length s ∷ sizes ss)) (take-append_seam s (joined ss))
outline-is (s ∷ ss) (suc j) inside =
    rw (start-behind (length s) (sizes ss) j, drop-append-add s (joined ss) (start_of (sizes ss) j)) (outline-is ss j (omega (arith, inside)))

-- ---- the walk
module _ (f : Format) where
  step_same : (x' x : SweepAnswer) (o' o k calls : ℕ) (next' next : ℕ → RouteAnswer) → x' ≡ x → o' ≡ o → ((n : ℕ) → next' n ≡ next n) →
      cond (is_separated x') (next' (calls + calls_of x')) (ended_by f x' (stop_at o' k (calls + calls_of x')))
      ≡ cond (is_separated x) (next (calls + calls_of x)) (ended_by f x (stop_at o k (calls + calls_of x)))
  step_same x' x o' o k calls next' next p q h =
      ap (λ (y : SweepAnswer). cond (is_separated y) (next' (calls + calls_of y)) (ended_by f y (stop_at o' k (calls + calls_of y)))) p
      ∙ ap (λ (n : ℕ). cond (is_separated x) (next' (calls + calls_of x)) (ended_by f x (stop_at n k (calls + calls_of x)))) q
      ∙ ap (λ (r : RouteAnswer). cond (is_separated x) r (ended_by f x (stop_at o k (calls + calls_of x)))) (h (calls + calls_of x))

  module _ (cart waypoints : List Float) (ss : List (List Float)) (slop : Float) (some : 1 ≤ length ss) where
    abbrev cuts : List (List Float)
    cuts = map (take 129) ss

    same-many : length (sizes cuts) ≡ length (sizes ss)
    same-many = as-many-sizes cuts ∙ length-map ss (take 129) ∙ sym (as-many-sizes ss)

    at_same : (i j : ℕ) → j < length ss →
        sweep_at f (take 129 cart) waypoints (joined cuts) (sizes cuts) slop i j ≡ sweep_at f cart waypoints (joined ss) (sizes ss) slop i j
    unfolding sweep_at
    at_same i j inside =
        let here : outline_at (joined cuts) (sizes cuts) j ≡ take 129 (get_or ss j []) =
        outline-is cuts j (rw (length-map ss (take 129)) inside) ∙ get_or-map (take 129) ss j [] in
        rw (here, outline-is ss j inside) (sweep-cut f _ _ _ _ _ slop cart (get_or ss j []))

    in-same : (k : ℕ) →
        sweep_at f (take 129 cart) waypoints (joined cuts) (sizes cuts) slop (k / length (sizes cuts)) (k % length (sizes cuts))
        ≡ sweep_at f cart waypoints (joined ss) (sizes ss) slop (k / length (sizes ss)) (k % length (sizes ss))
    in-same k =
        let o = length (sizes ss) in
        let least : 0 < length (sizes ss) = rw (as-many-sizes ss) some in
        let inside : k % length (sizes ss) < length ss = omega (arith, mod-lt k least, as-many-sizes ss) in
        ap (λ (n : ℕ). sweep_at f (take 129 cart) waypoints (joined cuts) (sizes cuts) slop (k / n) (k % n)) same-many ∙ at_same (k / o) (k % o) inside

    walk_same : (left k calls : ℕ) →
        walk_from f (take 129 cart) waypoints (joined cuts) (sizes cuts) slop left k calls ≡ walk_from f cart waypoints (joined ss) (sizes ss) slop left k calls
    unfolding walk_from
    walk_same zero k calls = refl
    walk_same (suc left) k calls =
        step_same _ _ (length (sizes cuts)) (length (sizes ss)) k calls
        (λ n. walk_from f (take 129 cart) waypoints (joined cuts) (sizes cuts) slop left (k + 1) n)
        (λ n. walk_from f cart waypoints (joined ss) (sizes ss) slop left (k + 1) n) (in-same k) same-many (walk_same left (k + 1))

  -- ---- the route
  module _ (cart waypoints : List Float) (ss : List (List Float)) (slop : Float) where
    right : length waypoints % 4 ≡ 0 → 2 ≤ length waypoints / 4 → length waypoints / 4 ≤ 33 → 1 ≤ length ss → length ss ≤ 32 →
        wrong f cart waypoints (joined ss) (sizes ss) slop ≡ 0
    right whole least most some few =
        let o : length (sizes ss) ≡ length ss = as-many-sizes ss in
        rw (
          eq-eqb (length waypoints % 4) 0 whole,
          le-ltb (length waypoints / 4) 2 least,
          le-ltb 33 (length waypoints / 4) most,
          ne_eqb (length (sizes ss)) 0 (λ e. omega (arith, o, e, some)),
          le-ltb 32 (length (sizes ss)) (omega (arith, o)),
          eq-eqb (start_of (sizes ss) (length (sizes ss))) (length (joined ss)) (all-sizes ss),
        )

  pub route-cut : (cart waypoints : List Float) (ss : List (List Float)) (slop : Float) → length waypoints % 4 ≡ 0 → 2 ≤ length waypoints / 4 →
      length waypoints / 4 ≤ 33 → 1 ≤ length ss → length ss ≤ 32 →
      route f (take 129 cart) waypoints (joined (map (take 129) ss)) (sizes (map (take 129) ss)) slop ≡ route f cart waypoints (joined ss) (sizes ss) slop
  unfolding route
  route-cut cart waypoints ss slop whole least most some few =
      let cuts = map (take 129) ss in
      let many : length (map (take 129) ss) ≡ length ss = length-map ss (take 129) in
      let walks = length waypoints / 4 - 1 in
      rw (
        right (take 129 cart) waypoints (map (take 129) ss) slop whole least most (rw many some) (rw many few),
        right cart waypoints ss slop whole least most some few,
      )
      (walk_same cart waypoints ss slop some (walks * length (sizes cuts)) 0 0
      ∙ ap (λ (n : ℕ). walk_from f cart waypoints (joined ss) (sizes ss) slop (walks * n) 0 0) (same-many cart waypoints ss slop some))

  -- ---- what is wrong whatever the outlines are, and whatever the numbers
  pub wrong-16 : (cart waypoints stills : List Float) (lengths : List ℕ) (slop : Float) → length waypoints % 4 ≡ 0 →
      (length waypoints / 4 < 2) ⊎ (33 < length waypoints / 4) → route f cart waypoints stills lengths slop ≡ Wrong 16
  unfolding route
  wrong-16 cart waypoints stills lengths slop whole (inl few) = rw (eq-eqb (length waypoints % 4) 0 whole, lt-ltb (length waypoints / 4) 2 few)
  wrong-16 cart waypoints stills lengths slop whole (inr many) =
      rw (eq-eqb (length waypoints % 4) 0 whole, lt-ltb 33 (length waypoints / 4) many, or-true (ltb (length waypoints / 4) 2))

  pub wrong-17 : (cart waypoints stills : List Float) (lengths : List ℕ) (slop : Float) → length waypoints % 4 ≡ 0 → 2 ≤ length waypoints / 4 →
      length waypoints / 4 ≤ 33 → (length lengths ≡ 0) ⊎ (32 < length lengths) → route f cart waypoints stills lengths slop ≡ Wrong 17
  unfolding route
  wrong-17 cart waypoints stills lengths slop whole least most (inl none) =
      rw (
        eq-eqb (length waypoints % 4) 0 whole,
        le-ltb (length waypoints / 4) 2 least,
        le-ltb 33 (length waypoints / 4) most,
        eq-eqb (length lengths) 0 none,
      )
  wrong-17 cart waypoints stills lengths slop whole least most (inr many) =
      rw (
        eq-eqb (length waypoints % 4) 0 whole,
        le-ltb (length waypoints / 4) 2 least,
        le-ltb 33 (length waypoints / 4) most,
        lt-ltb 32 (length lengths) many,
        or-true (eqb (length lengths) 0),
      )
