-- What stays as it was before a cache had the number of its pair, in definitions to compare with: the distance call over caches without a number, and
-- the sweep with the number looked at before each of its distance calls.
use Rattle.std.specs.Prelude.{ℕ, zero, suc, ◌-◌, Bool, cond, List, Float, Result, Ok, Err}
use Rattle.std.specs.Float.{Format}
use Rattle.model.specs.declared.Pose.{Pose}
use Rattle.model.specs.declared.Sweep.{Sweep}
use Rattle.model.specs.declared.SimplexCache.{SimplexCache}
use Rattle.model.specs.declared.Measurement.{Measurement}
use Rattle.model.specs.declared.Distance.{Distance}
use Rattle.model.specs.declared.SweepTask.{SweepTask}
use Rattle.model.specs.declared.Counts.{Counts}
use Rattle.model.specs.declared.SweepAnswer.{SweepAnswer}
use Rattle.model.specs.declared.SweepAnswer.TheVariants.{Refused as NotSwept}
use Rattle.model.specs.declared.Refusal.{Refusal}
use Rattle.model.specs.declared.ProxyDistanceOutput.{ProxyDistanceOutput}
use Rattle.model.specs.Ground as Ground
use Rattle.model.specs.Domain.{of_other_pair, numbered}
use Rattle.model.specs.Distance.{cache, inputs_refusal, measure}
use Rattle.model.specs.SweepToi.{sweep_pair, no_corners, no_counts, called, failed_at, closest_at, advance_by, sweep_task, sweep_refusal, max_distance_iterations}

-- ---- the distance call before
-- a cache without its number
pub record Corners : Type 0 where
  pub count : ℕ
  pub index_a : List ℕ
  pub index_b : List ℕ

-- an answer, and what the call left in such a cache
pub record Unnumbered : Type 0 where
  pub answer : Result ProxyDistanceOutput Refusal
  pub corners : Corners

-- the number set aside
abbrev pub corners : SimplexCache → Corners
corners c = record { count = c.count; index_a = c.index_a; index_b = c.index_b }

abbrev pub unnumbered : Distance → Unnumbered
unnumbered d = record { answer = d.answer; corners = corners d.cache }

-- refused by 1 to 6 alone; else the middle of the present call, from a cache and for a pair of any one number, which is then set aside
module _ (f : Format) (pose : Pose) (outline_a : List Float) (ra : Float) (outline_b : List Float) (rb : Float) (radii : Bool) (k : Corners) where
  abbrev pub middle : Measurement
  middle = measure f pose outline_a ra outline_b rb radii 0 (cache 0 k.count k.index_a k.index_b)

  abbrev pub unnumbered_by : ℕ → Unnumbered
  unnumbered_by zero = record { answer = Ok middle.output; corners = corners middle.cache }
  unnumbered_by (suc n) = record { answer = Err (numbered (suc n)); corners = k }

  unfoldable pub unnumbered_distance : Unnumbered
  unnumbered_distance = unnumbered_by (inputs_refusal f pose outline_a ra outline_b rb)

-- ---- a sweep in which each distance call refuses a cache of another pair
module _ (f : Format) (task : SweepTask) (outline_a outline_b : List Float) where
  -- as `advance_from`, but for the test
  unfoldable pub checked_from : ℕ → Float → SimplexCache → Counts → SweepAnswer
  checked_from zero t1 c n =
      let x = closest_at f task outline_a outline_b t1 c in
      cond (of_other_pair sweep_pair c) (NotSwept 12) (advance_by f task outline_a outline_b t1 x (called n) (λ t m. failed_at t x m))
  checked_from (suc k) t1 c n =
      let x = closest_at f task outline_a outline_b t1 c in
      cond (of_other_pair sweep_pair c) (NotSwept 12) (advance_by f task outline_a outline_b t1 x (called n) (λ t m. checked_from k t x.cache m))

module _ (f : Format) (outline_a : List Float) (ra : Float) (wa : Sweep) (outline_b : List Float) (rb : Float) (wb : Sweep) (tmax slop : Float) where
  abbrev pub checked_by : ℕ → SweepAnswer
  checked_by zero = checked_from f (sweep_task f ra wa rb wb tmax slop) outline_a outline_b (max_distance_iterations - 1) (Ground.zero f) no_corners no_counts
  checked_by (suc n) = NotSwept (suc n)

  unfoldable pub checked_sweep : SweepAnswer
  checked_sweep = checked_by (sweep_refusal f outline_a ra wa outline_b rb wb tmax slop)
