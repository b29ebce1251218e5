-- The sweep of the f64 crates is model's. Assumes nothing.
use Prim.Native.Nat.{ℕ, zero, suc, ◌+◌, ◌%◌}
use mathlib.Core.Bool.{Bool, true, false, cond}
use mathlib.Core.List.{List}
use mathlib.Core.Path.{◌≡◌, refl, ap, sym, ◌∙◌}
use lib.Dec.{eqb}
use lib.Ieee.{Float, Format, sub, lt, le}
use Rattle.model.specs.declared.Vector.{Vector}
use Rattle.model.specs.declared.Sweep.{Sweep}
use Rattle.model.specs.declared.SimplexCache.{SimplexCache}
use Rattle.model.specs.declared.SeparationFunction.{SeparationFunction}
use Rattle.model.specs.declared.SweepTask.{SweepTask}
use Rattle.model.specs.declared.Closest.{Closest}
use Rattle.model.specs.declared.Counts.{Counts}
use Rattle.model.specs.declared.SweepAnswer.{SweepAnswer}
use Rattle.model64.specs.declared.SweepAnswer.{SweepAnswer as SweepAnswer64}
use Rattle.model.specs.Ground as Ground
use Rattle.model.specs.Sweep.{transform_at}
use Rattle.model.specs.Separation.{new_separation, evaluate, find_min_separation}
use Rattle.model.specs.SweepToi.{PushEnd, ended, moved, closest_at, tried, root_from, push_from, advance_from, sweep_task, sweep_time_of_impact}
use Rattle.model.specs.SweepToi as T
use Rattle.model64.specs.SweepToi as T64
use Rattle.model64.specs.SweepToi.{PushEnd as PushEnd64, closest_at as closest_at64, tried as tried64, root_from as root_from64, push_from as push_from64}
use Rattle.model64.specs.SweepToi.{advance_from as advance_from64, sweep_task as sweep_task64, sweep_time_of_impact as sweep_time_of_impact64}
use Rattle.bridge.specs.Wide.{vector64, pose64, sweep64, function64, task64, closest64, root_search64, sweep_answer64}
use Rattle.bridge.proofs.Ground.{by-test}
use Rattle.bridge.proofs.Domain.{pair-refusal-same}
use Rattle.bridge.proofs.Distance.{measure-same}
use Rattle.bridge.proofs.Separation.{transform-same, shifted-same, new-separation-same, evaluate-same, find-same}

abbrev pub end64 : PushEnd → PushEnd64
end64 (ended x) = T64.ended (sweep_answer64 x)
end64 (moved t n) = T64.moved t n

module _ (f : Format) (w : SweepTask) (a b : List Float) where
  pub closest_same : (t : Float) (c : SimplexCache) → closest_at64 f (task64 w) a b t c ≡ closest64 (closest_at f w a b t c)
  unfolding closest_at64 closest_at
  closest_same t c =
      let pa = transform_at f w.sweep_a t in
      let pb = transform_at f w.sweep_b t in
      rw (
        transform-same f w.sweep_a t,
        transform-same f w.sweep_b t,
        measure-same f (Ground.inverse_times f pa pb) a w.radius_a b
            w.radius_b false T.sweep_pair c,
      )

  tried_same : (n : ℕ) (a1 a2 s1 s2 : Float) → tried64 f (task64 w) n a1 a2 s1 s2 ≡ tried f w n a1 a2 s1 s2
  unfolding tried64 tried
  tried_same n a1 a2 s1 s2 = refl

  pub root-same : (g : SeparationFunction) (i j : ℕ) (t2 : Float) (k : ℕ) (a1 a2 s1 s2 : Float) (n : ℕ) →
      root_from64 f (task64 w) a b (function64 g) i j t2 k a1 a2 s1 s2 n ≡ root_search64 (root_from f w a b g i j t2 k a1 a2 s1 s2 n)
  unfolding root_from64 root_from
  root-same g i j t2 zero a1 a2 s1 s2 n = refl
  root-same g i j t2 (suc k) a1 a2 s1 s2 n =
      let t = tried f w n a1 a2 s1 s2 in
      let s = evaluate f a b g i j t in
      rw (tried_same n a1 a2 s1 s2, evaluate-same f a b g i j t)
      (by-test root_search64 (le (Ground.abs (sub f s w.target)) w.tolerance) refl (root-same g i j t2 k _ _ _ _ _))

  pub push-same : (g : SeparationFunction) (t1 : Float) (x : Closest) (k : ℕ) (t2 : Float) (n : Counts) →
      push_from64 f (task64 w) a b (function64 g) t1 (closest64 x) k t2 n ≡ end64 (push_from f w a b g t1 x k t2 n)
  unfolding push_from64 push_from
  push-same g t1 x zero t2 n = refl
  push-same g t1 x (suc k) t2 n =
      let m = find_min_separation f a b g t2 in
      let s1 = evaluate f a b g m.index_a m.index_b t1 in
      rw (
        find-same f a b g t2,
        evaluate-same f a b g m.index_a m.index_b t1,
        root-same g m.index_a m.index_b t2 50 t1 t2 s1
            m.separation 0,
      )
      (by-test end64 (lt w.tolerance (sub f m.separation w.target)) refl
      (by-test end64 (le (T.low f w) m.separation) refl
      (by-test end64 (lt s1 (T.low f w)) refl
      (by-test end64 (le s1 (T.high f w)) refl (push-same g t1 x k _ _)))))

  onward-same : (e : PushEnd) (go64 : Float → Counts → SweepAnswer64) (go : Float → Counts → SweepAnswer) →
      ((t : Float) (n : Counts) → go64 t n ≡ sweep_answer64 (go t n)) → T64.onward (end64 e) go64 ≡ sweep_answer64 (T.onward e go)
  onward-same (ended x) go64 go h = refl
  onward-same (moved t n) go64 go h = h t n

  advance-by-same : (t1 : Float) (x : Closest) (n : Counts) (go64 : Float → Counts → SweepAnswer64) (go : Float → Counts → SweepAnswer) →
      ((t : Float) (m : Counts) → go64 t m ≡ sweep_answer64 (go t m)) → T64.advance_by f (task64 w) a b t1 (closest64 x) n go64
      ≡ sweep_answer64 (T.advance_by f w a b t1 x n go)
  advance-by-same t1 x n go64 go h =
      let g = new_separation f w.sweep_a w.sweep_b a b x.cache t1 in
      rw (new-separation-same f w.sweep_a w.sweep_b a b x.cache t1, push-same g t1 x 8 w.t_max n)
      (by-test sweep_answer64 (le x.distance (Ground.zero f)) refl
      (by-test sweep_answer64 (le x.distance (T.high f w)) refl
      (onward-same (push_from f w a b g t1 x 8 w.t_max n) go64 go h)))

  pub advance-same : (k : ℕ) (t1 : Float) (c : SimplexCache) (n : Counts) → advance_from64 f (task64 w) a b k t1 c n
      ≡ sweep_answer64 (advance_from f w a b k t1 c n)
  unfolding advance_from64 advance_from
  advance-same zero t1 c n = rw (closest_same t1 c) (advance-by-same t1 (closest_at f w a b t1 c) (T.called n) _ _ (λ t m. refl))
  advance-same (suc k) t1 c n =
      rw (closest_same t1 c) (advance-by-same t1 (closest_at f w a b t1 c) (T.called n) _ _ (λ t m. advance-same k t (closest_at f w a b t1 c).cache m))

module _ (f : Format) (a : List Float) (ra : Float) (wa : Sweep) (b : List Float) (rb : Float) (wb : Sweep) (tmax slop : Float) where
  pub task-same : sweep_task64 f ra (sweep64 wa) rb (sweep64 wb) tmax slop ≡ task64 (sweep_task f ra wa rb wb tmax slop)
  unfolding sweep_task64 sweep_task
  task-same = rw (shifted-same f wa wa.c1, shifted-same f wb wa.c1)

  by-refusal : (n : ℕ) → T64.sweep_by f a ra (sweep64 wa) b rb (sweep64 wb) tmax slop n ≡ sweep_answer64 (T.sweep_by f a ra wa b rb wb tmax slop n)
  by-refusal zero = rw task-same (advance-same f (sweep_task f ra wa rb wb tmax slop) a b 19 (Ground.zero f) T.no_corners (T.counts 0 0 0))
  by-refusal (suc n) = refl

  pub sweep-same : sweep_time_of_impact64 f a ra (sweep64 wa) b rb (sweep64 wb) tmax slop ≡ sweep_answer64 (sweep_time_of_impact f a ra wa b rb wb tmax slop)
  unfolding sweep_time_of_impact64 sweep_time_of_impact
  sweep-same = rw (pair-refusal-same f a b ra rb) (by-refusal (T.sweep_refusal f a ra wa b rb wb tmax slop))
