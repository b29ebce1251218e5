-- Written by tests/written/wide.py from model, in f64.
-- The sweep: when, along two planned moves, the outlines come within the target distance. Three loops inside one another, each by the number of
-- turns that it has left, counting as they go:
--   advancement   at t1 a distance call; overlapped, a hit, or an axis along which to push back;
--   push-back     at t2 the deepest corners along that axis: separated, t1 moves up to t2, no verdict, a hit, or t2 comes back;
--   root search   t2 comes back to where those corners reach the target.
-- A push-back answers separated by one axis and one time: the one that the distance call at t1 gave, at the end of the interval, t2. Where
-- something turns, that does not say that the outlines stay apart on the way to it.
use Rattle.std.specs.Prelude.{ℕ, zero, suc, ◌+◌, ◌-◌, ◌%◌, Bool, true, false, cond, List, [], ◌∷◌, eqb, Float}
use Rattle.std.specs.Float.{Format}
use Rattle.std.specs.Float.Ieee.{add, sub, mul, div, lt, le}
use Rattle.model64.specs.declared.Vector.{Vector}
use Rattle.model64.specs.declared.Pose.{Pose}
use Rattle.model64.specs.declared.Sweep.{Sweep}
use Rattle.model.specs.declared.SimplexCache.{SimplexCache}
use Rattle.model64.specs.declared.ProxyDistanceOutput.{ProxyDistanceOutput}
use Rattle.model64.specs.declared.Measurement.{Measurement}
use Rattle.model64.specs.declared.SeparationFunction.{SeparationFunction}
use Rattle.model64.specs.declared.MinSeparation.{MinSeparation}
use Rattle.model64.specs.declared.SweepTask.{SweepTask}
use Rattle.model64.specs.declared.Closest.{Closest}
use Rattle.model64.specs.declared.RootSearch.{RootSearch}
use Rattle.model.specs.declared.Counts.{Counts}
use Rattle.model64.specs.declared.Contact.{Contact}
use Rattle.model64.specs.declared.SweepAnswer.{SweepAnswer}
use Rattle.model64.specs.declared.SweepAnswer.TheVariants.{Overlapped, Hit, Separated, Failed, Refused}
use Rattle.model.specs.Ground.{max, abs}
use Rattle.model64.specs.Ground.{half, quarter, origin, plus, minus, times, rotate, on_point, inverse_times}
use Rattle.model64.specs.Ground as Ground
use Rattle.model.specs.Domain.{or_else}
use Rattle.model64.specs.Domain.{pair_refusal, sweeps_refusal, fraction_refusal, slop_refusal}
use Rattle.model.specs.Distance.{cache}
use Rattle.model64.specs.Distance.{measure}
use Rattle.model64.specs.Sweep.{transform_at, shifted}
use Rattle.model64.specs.Separation.{new_separation, evaluate, find_min_separation}
pub use Rattle.model.specs.SweepToi.{max_distance_iterations}
pub use Rattle.model.specs.SweepToi.{max_push_back_iterations}
pub use Rattle.model.specs.SweepToi.{max_root_iterations}
pub use Rattle.model.specs.SweepToi.{counts}
pub use Rattle.model.specs.SweepToi.{no_counts}
pub use Rattle.model.specs.SweepToi.{called}
pub use Rattle.model.specs.SweepToi.{searched}
pub use Rattle.model.specs.SweepToi.{stepped}
pub use Rattle.model.specs.SweepToi.{sweep_pair}
pub use Rattle.model.specs.SweepToi.{no_corners}

-- ---- the exits; x is what the last distance call found
abbrev pub contact : Float → Vector → Vector → Contact
contact t p n = record { fraction = t; point = p; normal = n }

abbrev pub nowhere : Format → Float → Contact
nowhere f t = contact t (origin f) (origin f)

abbrev pub there : Float → Closest → Contact
there t x = contact t x.point x.normal

abbrev pub overlapped : Counts → SweepAnswer
overlapped n = Overlapped n

abbrev pub hit : Float → Closest → Counts → SweepAnswer
hit t x n = Hit (there t x) n

abbrev pub separated : Format → Float → Counts → SweepAnswer
separated f t n = Separated (nowhere f t) n

-- with no place, and with the last one
abbrev pub failed : Format → Float → Counts → SweepAnswer
failed f t n = Failed (nowhere f t) n

abbrev pub failed_at : Float → Closest → Counts → SweepAnswer
failed_at t x n = Failed (there t x) n

-- how a round of push-backs ends: with the answer, or with a new t1
pub data PushEnd : Type 0 where
  ended : SweepAnswer → PushEnd
  moved : Float → Counts → PushEnd

abbrev pub onward : PushEnd → (Float → Counts → SweepAnswer) → SweepAnswer
onward (ended x) go = x
onward (moved t n) go = go t n

abbrev pub found : Float → ℕ → RootSearch
found t n = record { t = t; steps = n }

module _ (f : Format) (task : SweepTask) where
  -- what a distance call tells, in the world
  abbrev pub closest_by : Pose → Measurement → Closest
  closest_by pa m =
      let n = rotate f pa.rotation m.output.normal in
      let ua = plus f (on_point f pa m.output.point_a) (times f n task.radius_a) in
      let ub = minus f (on_point f pa m.output.point_b) (times f n task.radius_b) in
      record { distance = m.output.distance; point = plus f (times f (plus f ua ub) (half f)) task.origin; normal = n; cache = m.cache }

  -- root step n tries the middle of the bracket where n is even, and the secant where it is odd
  unfoldable pub tried : ℕ → Float → Float → Float → Float → Float
  tried n a1 a2 s1 s2 =
      cond (eqb (n % 2) 1) (add f a1 (div f (mul f (sub f task.target s1) (sub f a2 a1)) (sub f s2 s1))) (mul f (half f) (add f a1 a2))

  abbrev pub low : Float
  low = sub f task.target task.tolerance

  abbrev pub high : Float
  high = add f task.target task.tolerance

  module _ (outline_a outline_b : List Float) where
    -- ---- the distance call at t
    unfoldable pub closest_at : Float → SimplexCache → Closest
    closest_at t c =
        let pa = transform_at f task.sweep_a t in
        let pb = transform_at f task.sweep_b t in
        closest_by pa (measure f (inverse_times f pa pb) outline_a task.radius_a outline_b task.radius_b false sweep_pair c)

    -- ---- the root search: k steps left, n made; where none lands within the tolerance, t2 stays
    unfoldable pub root_from : SeparationFunction → ℕ → ℕ → Float → ℕ → Float → Float → Float → Float → ℕ → RootSearch
    root_from g i j t2 zero a1 a2 s1 s2 n = found t2 n
    root_from g i j t2 (suc k) a1 a2 s1 s2 n =
        let t = tried n a1 a2 s1 s2 in
        let s = evaluate f outline_a outline_b g i j t in
        let up = lt task.target s in
        cond (le (abs (sub f s task.target)) task.tolerance) (found t (n + 1))
        (root_from g i j t2 k (cond up t a1) (cond up a2 t) (cond up s s1) (cond up s2 s) (n + 1))

    -- ---- push-back: k left, along g; x is what the distance call at t1 found
    unfoldable pub push_from : SeparationFunction → Float → Closest → ℕ → Float → Counts → PushEnd
    push_from g t1 x zero t2 n = moved t1 n
    push_from g t1 x (suc k) t2 n =
        let m = find_min_separation f outline_a outline_b g t2 in
        let s1 = evaluate f outline_a outline_b g m.index_a m.index_b t1 in
        let r = root_from g m.index_a m.index_b t2 max_root_iterations t1 t2 s1 m.separation 0 in
        cond (lt task.tolerance (sub f m.separation task.target)) (ended (separated f task.t_max (searched n)))
        (cond (le low m.separation) (moved t2 (searched n))
        (cond (lt s1 low) (ended (failed f t1 (searched n)))
        (cond (le s1 high) (ended (hit t1 x (searched n)))
        (push_from g t1 x k r.t (stepped (searched n) r.steps)))))

    -- ---- advancement
    -- one distance call at t1, and what goes on where it gives no verdict
    abbrev pub advance_by : Float → Closest → Counts → (Float → Counts → SweepAnswer) → SweepAnswer
    advance_by t1 x n go =
        let g = new_separation f task.sweep_a task.sweep_b outline_a outline_b x.cache t1 in
        cond (le x.distance (Ground.zero f)) (overlapped n)
        (cond (le x.distance high) (hit t1 x n)
        (onward (push_from g t1 x max_push_back_iterations task.t_max n) go))

    -- k calls may follow this one; after the last the search has failed
    unfoldable pub advance_from : ℕ → Float → SimplexCache → Counts → SweepAnswer
    advance_from zero t1 c n = let x = closest_at t1 c in advance_by t1 x (called n) (λ t m. failed_at t x m)
    advance_from (suc k) t1 c n = let x = closest_at t1 c in advance_by t1 x (called n) (λ t m. advance_from k t x.cache m)

    -- from time 0, with nothing known
    abbrev pub advance : SweepAnswer
    advance = advance_from (max_distance_iterations - 1) (Ground.zero f) no_corners no_counts

-- ---- the call
-- both moves are seen from A's first centre
unfoldable pub sweep_task : Format → Float → Sweep → Float → Sweep → Float → Float → SweepTask
sweep_task f ra wa rb wb tmax slop = record {
  sweep_a = shifted f wa wa.c1;
  sweep_b = shifted f wb wa.c1;
  origin = wa.c1;
  radius_a = ra;
  radius_b = rb;
  t_max = tmax;
  target = max slop (sub f (add f ra rb) slop);
  tolerance = mul f (quarter f) slop;
}

module _ (f : Format) (outline_a : List Float) (ra : Float) (wa : Sweep) (outline_b : List Float) (rb : Float) (wb : Sweep) (tmax slop : Float) where
  abbrev pub sweep_refusal : ℕ
  sweep_refusal =
      or_else (pair_refusal f outline_a outline_b ra rb)
      (or_else (sweeps_refusal f wa wb) (or_else (fraction_refusal f tmax) (slop_refusal f slop)))

  abbrev pub sweep_by : ℕ → SweepAnswer
  sweep_by zero = advance f (sweep_task f ra wa rb wb tmax slop) outline_a outline_b
  sweep_by (suc n) = Refused (suc n)

  unfoldable pub sweep_time_of_impact : SweepAnswer
  sweep_time_of_impact = sweep_by sweep_refusal
