-- Written by tests/written/wide.py from sweep_toi, in f64.
-- A fixed state repeats: where a distance call leaves the time and the cache as they were, the calls that are left are this one again. Their counts add
-- up, and nothing else changes. Assumes nothing.
use Prim.{Unit}
use Prim.Native.Nat.{ℕ, zero, suc, ◌+◌, ◌*◌, ◌≤◌}
use native.Mathlib.Nat.{add-mul, suc-mul}
use native.Mathlib.Omega.{arith}
use mathlib.Core.Bool.{Bool, true, false, cond}
use mathlib.Core.List.{List, [], ◌++◌}
use mathlib.Core.Path.{◌≡◌, refl, sym, ap, subst, ◌∙◌}
use lib.Ieee.{Float, Format, sub, lt, le}
use Rattle.model.specs.declared.SimplexCache.{SimplexCache}
use Rattle.model64.specs.declared.SeparationFunction.{SeparationFunction}
use Rattle.model64.specs.declared.MinSeparation.{MinSeparation}
use Rattle.model64.specs.declared.SweepTask.{SweepTask}
use Rattle.model64.specs.declared.Closest.{Closest}
use Rattle.model64.specs.declared.RootSearch.{RootSearch}
use Rattle.model.specs.declared.Counts.{Counts}
use Rattle.model.specs.declared.Corners.{Corners}
use Rattle.model64.specs.declared.SweepAnswer.{SweepAnswer}
use Rattle.model64.specs.Ground as Ground
use Rattle.model64.specs.Separation.{new_separation, evaluate, find_min_separation}
use Rattle.model.specs.SweepToi.{counts, called, searched, stepped}
use Rattle.model64.specs.SweepToi.{failed_at, PushEnd, ended, moved}
use Rattle.model64.specs.SweepToi.{closest_at, root_from, low, high, push_from, advance_by, advance_from}
use Rattle.model.specs.Corners.{last_of}
use Rattle.model64.specs.Corners.{push_searches, searches_by, searches_from}
use Rattle.sweep_toi64.specs.Repeats.{since, further}
use Rattle.model64.proofs.Searches.{last-append, last-of-repeat}

same-counts : {a b c x y z : ℕ} → a ≡ x → b ≡ y → c ≡ z → counts a b c ≡ counts x y z
same-counts p q r = rw (p, q, r)

-- d once, and then k + 1 times
once_more : (n k d : ℕ) → n + 1 * d + (k + 1) * d ≡ n + (suc k + 1) * d
once_more n k d = rw (add-mul k 1 d, add-mul (suc k) 1 d, suc-mul k d) (omega arith)

-- n was counted no later than m
pub record Before (n m : Counts) : Type 0 where
  pub calls : n.distance_calls ≤ m.distance_calls
  pub searches : n.searches ≤ m.searches
  pub steps : n.root_steps ≤ m.root_steps

-- how the push-backs that begin at the counts n end, told by how those end that begin at o
abbrev Shifted : Counts → Counts → PushEnd → PushEnd → Type 0
Shifted o n (ended x) e = Unit {0}
Shifted o n (moved t m) e = Before o m × (e ≡ moved t (further n 1 (since o m)))

both : {A : Type 0} (P : A → A → Type 0) (t : Bool) (x y u v : A) → P x u → P y v → P (cond t x y) (cond t u v)
both P true x y u v p q = p
both P false x y u v p q = q

-- one search and some root steps before both
later : (o n : Counts) (k : ℕ) (d e : PushEnd) → Shifted (stepped (searched o) k) (stepped (searched n) k) d e → Shifted o n d e
later o n k (ended x) e s = tt
later o n k (moved t m) e s =
    let h = s.0 in (
      record { calls = h.calls; searches = omega (arith, h.searches); steps = omega (arith, h.steps) },
      s.1 ∙ ap (moved t) (same-counts refl (omega (arith, h.searches)) (omega (arith, h.steps))),
    )

module _ (f : Format) (w : SweepTask) (a b : List Float) where
  -- ---- push-backs
  pushes-shift : (g : SeparationFunction) (t1 : Float) (x : Closest) (k : ℕ) (t2 : Float) (o n : Counts) →
      Shifted o n (push_from f w a b g t1 x k t2 o) (push_from f w a b g t1 x k t2 n)
  unfolding push_from
  pushes-shift g t1 x zero t2 o n = (
    record { calls = omega arith; searches = omega arith; steps = omega arith },
    ap (moved t1) (same-counts (omega arith) (omega arith) (omega arith)),
  )
  pushes-shift g t1 x (suc k) t2 o n =
      both (Shifted o n) (lt w.tolerance (sub f m.separation w.target)) _ _ _ _ tt
      (both (Shifted o n) (le (low f w) m.separation) _ _ _ _ one_more
      (both (Shifted o n) (lt s1 (low f w)) _ _ _ _ tt
      (both (Shifted o n) (le s1 (high f w)) _ _ _ _ tt
      (later o n root.steps (next o) (next n) (pushes-shift g t1 x k root.t (stepped (searched o) root.steps) (stepped (searched n) root.steps))))))
    where
      m : MinSeparation
      m = find_min_separation f a b g t2

      s1 : Float
      s1 = evaluate f a b g m.index_a m.index_b t1

      root : RootSearch
      root = root_from f w a b g m.index_a m.index_b t2 50 t1 t2 s1 m.separation 0

      next : Counts → PushEnd
      next i = push_from f w a b g t1 x k root.t (stepped (searched i) root.steps)

      one_more : Shifted o n (moved t2 (searched o)) (moved t2 (searched n))
      one_more = (
        record { calls = omega arith; searches = omega arith; steps = omega arith },
        ap (moved t2) (same-counts (omega arith) (omega arith) (omega arith)),
      )

-- a distance call from the counts n that finds x, keeps the cache, and whose push-backs are left at t1 with the counts m
pub record FixedCall (f : Format) (w : SweepTask) (a b : List Float) (t1 : Float) (c : SimplexCache) (x : Closest) (n m : Counts) : Type 0 where
  pub there : x ≡ closest_at f w a b t1 c
  pub kept : x.cache ≡ c
  pub apart : le x.distance (Ground.zero f) ≡ false
  pub far : le x.distance (high f w) ≡ false
  pub held : push_from f w a b (new_separation f w.sweep_a w.sweep_b a b x.cache t1) t1 x 8 w.t_max (called n) ≡ moved t1 m

module _ (f : Format) (w : SweepTask) (a b : List Float) where
  -- ---- distance calls
  module _ (t1 : Float) (c : SimplexCache) (x : Closest) (n m : Counts) (fixed : FixedCall f w a b t1 c x n m) where
    abbrev g : SeparationFunction
    g = new_separation f w.sweep_a w.sweep_b a b x.cache t1

    held-from : (o : Counts) → Before (called n) m × (push_from f w a b g t1 x 8 w.t_max (called o) ≡ moved t1 (further o 1 (since n m)))
    held-from o =
        let e = push_from f w a b g t1 x 8 w.t_max (called o) in
        let s = subst (λ d. Shifted (called n) (called o) d e) fixed.held (pushes-shift f w a b g t1 x 8 w.t_max (called n) (called o)) in
        let h = s.0 in (
          h,
          s.1 ∙ ap (moved t1) (same-counts (omega (arith, h.calls)) (omega arith) (omega arith)),
        )

    one-call : (o : Counts) (go : Float → Counts → SweepAnswer) → advance_by f w a b t1 x (called o) go ≡ go t1 (further o 1 (since n m))
    one-call o go = rw (fixed.apart, fixed.far, (held-from o).1) refl

    -- the calls that are left, from any counts
    pub calls-repeat : (k : ℕ) (o : Counts) → advance_from f w a b k t1 c o ≡ failed_at t1 x (further o (k + 1) (since n m))
    unfolding advance_from
    calls-repeat zero o = rw (sym fixed.there) (one-call o _)
    calls-repeat (suc k) o =
        let next = ap (λ y. advance_from f w a b k t1 y (further o 1 (since n m))) fixed.kept in
        rw (sym fixed.there) (one-call o _ ∙ next ∙ calls-repeat k (further o 1 (since n m)) ∙ ap (failed_at t1 x) again-counted)
      where
        again-counted : further (further o 1 (since n m)) (k + 1) (since n m) ≡ further o (suc k + 1) (since n m)
        again-counted =
            let d = since n m in
            same-counts (once_more o.distance_calls k d.distance_calls) (once_more o.searches k d.searches)
            (once_more o.root_steps k d.root_steps)

    abbrev pub made : List Corners
    made = push_searches f w a b g t1 8 w.t_max

    one-round : (o : Counts) (go : Float → Counts → List Corners) →
        searches_by f w a b t1 x (called o) go ≡ made ++ go t1 (further o 1 (since n m))
    one-round o go = rw (fixed.apart, fixed.far, (held-from o).1) refl

    round-stays : (e : Corners) (ys : List Corners) → last_of (last_of e made) ys ≡ last_of e made → last_of (last_of e made) (made ++ ys) ≡ last_of e made
    round-stays e ys h = last-append (last_of e made) made ys ∙ ap (λ y. last_of y ys) (last-of-repeat e made) ∙ h

    -- the corners stay those of the first of them
    pub call-corners-stay : (k : ℕ) (o : Counts) (e : Corners) → last_of (last_of e made) (searches_from f w a b k t1 c o) ≡ last_of e made
    unfolding searches_from last_of
    call-corners-stay zero o e = rw (sym fixed.there) (ap (last_of (last_of e made)) (one-round o _) ∙ round-stays e [] refl)
    call-corners-stay (suc k) o e =
        let n = further o 1 (since n m) in
        let next = ap (λ y. last_of (last_of e made) (searches_from f w a b k t1 y n)) fixed.kept ∙ call-corners-stay k n e in
        rw (sym fixed.there) (ap (last_of (last_of e made)) (one-round o _) ∙ round-stays e (searches_from f w a b k t1 x.cache n) next)
