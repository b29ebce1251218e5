-- The searches of a sweep of the f64 crates, and its answer with the corners of the last, are model's. Assumes nothing.
use Prim.Native.Nat.{ℕ, zero, suc}
use mathlib.Core.Bool.{Bool, true, false, cond}
use mathlib.Core.List.{List, [], ◌∷◌, ◌++◌}
use mathlib.Core.Path.{◌≡◌, refl, ap}
use lib.Ieee.{Float, Format, sub, lt, le}
use Rattle.model.specs.declared.Sweep.{Sweep}
use Rattle.model.specs.declared.SimplexCache.{SimplexCache}
use Rattle.model.specs.declared.SeparationFunction.{SeparationFunction}
use Rattle.model.specs.declared.Corners.{Corners}
use Rattle.model.specs.declared.SweepTask.{SweepTask}
use Rattle.model.specs.declared.Closest.{Closest}
use Rattle.model.specs.declared.Counts.{Counts}
use Rattle.model.specs.Ground as Ground
use Rattle.model.specs.Separation.{new_separation, evaluate, find_min_separation}
use Rattle.model.specs.SweepToi.{PushEnd, ended, moved, closest_at, push_from, root_from, low, high, sweep_task, sweep_refusal}
use Rattle.model.specs.SweepToi as T
use Rattle.model.specs.Corners.{push_searches, searches_from, last_of, no_search, searches_or_none, sweep_searches, advanced, sweep}
use Rattle.model.specs.Corners as C
use Rattle.model64.specs.Corners.{push_searches as push_searches64, searches_from as searches_from64, advanced as advanced64, sweep as sweep_of64}
use Rattle.model64.specs.Corners as C64
use Rattle.bridge.specs.Wide.{sweep64, function64, task64, closest64, swept64}
use Rattle.bridge.proofs.Domain.{pair-refusal-same}
use Rattle.bridge.proofs.Separation.{new-separation-same, evaluate-same, find-same, corners-same}
use Rattle.bridge.proofs.SweepToi.{end64, closest_same, root-same, push-same, advance-same, task-same, sweep-same}

-- by cases on a test
test-same : {A : Type 0} (t : Bool) {x' y' x y : A} → x' ≡ x → y' ≡ y → cond t x' y' ≡ cond t x y
test-same true p q = p
test-same false p q = q

module _ (f : Format) (w : SweepTask) (a b : List Float) where
  push-searches-same : (g : SeparationFunction) (t1 : Float) (k : ℕ) (t2 : Float) →
      push_searches64 f (task64 w) a b (function64 g) t1 k t2 ≡ push_searches f w a b g t1 k t2
  unfolding push_searches64 push_searches
  push-searches-same g t1 zero t2 = refl
  push-searches-same g t1 (suc k) t2 =
      let m = find_min_separation f a b g t2 in
      let s1 = evaluate f a b g m.index_a m.index_b t1 in
      rw (
        corners-same f a b g t2,
        find-same f a b g t2,
        evaluate-same f a b g m.index_a m.index_b t1,
        root-same f w a b g m.index_a m.index_b t2 50 t1 t2 s1 m.separation 0,
      )
      (ap (λ (l : List Corners). C.corners_at f a b g t2 ∷ l)
      (test-same (lt w.tolerance (sub f m.separation w.target)) refl
      (test-same (le (low f w) m.separation) refl
      (test-same (lt s1 (low f w)) refl
      (test-same (le s1 (high f w)) refl (push-searches-same g t1 k _))))))

  afterwards-same : (e : PushEnd) (go64 go : Float → Counts → List Corners) → ((t : Float) (n : Counts) → go64 t n ≡ go t n) →
      C64.afterwards f (end64 e) go64 ≡ C.afterwards f e go
  afterwards-same (ended x) go64 go h = refl
  afterwards-same (moved t n) go64 go h = h t n

  searches-by-same : (t1 : Float) (x : Closest) (n : Counts) (go64 go : Float → Counts → List Corners) → ((t : Float) (m : Counts) → go64 t m ≡ go t m) →
      C64.searches_by f (task64 w) a b t1 (closest64 x) n go64 ≡ C.searches_by f w a b t1 x n go
  searches-by-same t1 x n go64 go h =
      let g = new_separation f w.sweep_a w.sweep_b a b x.cache t1 in
      rw (
        new-separation-same f w.sweep_a w.sweep_b a b x.cache t1,
        push-searches-same g t1 8 w.t_max,
        push-same f w a b g t1 x 8 w.t_max n,
      )
      (test-same (le x.distance (Ground.zero f)) refl
      (test-same (le x.distance (high f w)) refl
      (ap (λ (l : List Corners). push_searches f w a b g t1 8 w.t_max ++ l) (afterwards-same (push_from f w a b g t1 x 8 w.t_max n) go64 go h))))

  searches-same : (k : ℕ) (t1 : Float) (c : SimplexCache) (n : Counts) → searches_from64 f (task64 w) a b k t1 c n ≡ searches_from f w a b k t1 c n
  unfolding searches_from64 searches_from
  searches-same zero t1 c n = rw (closest_same f w a b t1 c) (searches-by-same t1 (closest_at f w a b t1 c) (T.called n) _ _ (λ t m. refl))
  searches-same (suc k) t1 c n =
      rw (closest_same f w a b t1 c)
      (searches-by-same t1 (closest_at f w a b t1 c) (T.called n) _ _ (λ t m. searches-same k t (closest_at f w a b t1 c).cache m))

pub advanced-same : (f : Format) (w : SweepTask) (a b : List Float) → advanced64 f (task64 w) a b ≡ swept64 (advanced f w a b)
unfolding advanced64 advanced
advanced-same f w a b =
    rw (advance-same f w a b 19 (Ground.zero f) T.no_corners (T.counts 0 0 0), searches-same f w a b 19 (Ground.zero f) T.no_corners (T.counts 0 0 0))

module _ (f : Format) (a : List Float) (ra : Float) (wa : Sweep) (b : List Float) (rb : Float) (wb : Sweep) (tmax slop : Float) where
  by-refusal : (n : ℕ) → C64.searches_or_none f a ra (sweep64 wa) b rb (sweep64 wb) tmax slop n ≡ searches_or_none f a ra wa b rb wb tmax slop n
  by-refusal zero =
      rw (task-same f a ra wa b rb wb tmax slop) (searches-same f (sweep_task f ra wa rb wb tmax slop) a b 19 (Ground.zero f) T.no_corners (T.counts 0 0 0))
  by-refusal (suc n) = refl

  pub swept_same : sweep_of64 f a ra (sweep64 wa) b rb (sweep64 wb) tmax slop ≡ swept64 (sweep f a ra wa b rb wb tmax slop)
  unfolding sweep_of64 sweep
  swept_same =
      rw (
        sweep-same f a ra wa b rb wb tmax slop,
        pair-refusal-same f a b ra rb,
        by-refusal (sweep_refusal f a ra wa b rb wb tmax slop),
      )
