-- Written by tests/written/wide.py from sweep_toi, in f64.
-- The rounds of a sweep as the code does them: each pose and each point worked out once.
-- proofs/Rounds.antt shows that they are those of `model`.
use Rattle.std.specs.Prelude.{ℕ, zero, suc, ◌+◌, false, cond, List, eqb, Float}
use Rattle.std.specs.Float.{Format}
use Rattle.std.specs.Float.Ieee.{sub, lt, le}
use Rattle.model64.specs.declared.Vector.{Vector}
use Rattle.model.specs.declared.SimplexCache.{SimplexCache}
use Rattle.model64.specs.declared.SeparationFunction.{SeparationFunction}
use Rattle.model64.specs.declared.SweepTask.{SweepTask}
use Rattle.model64.specs.declared.Closest.{Closest}
use Rattle.model.specs.declared.Counts.{Counts}
use Rattle.model.specs.declared.Corners.{Corners}
use Rattle.model.specs.Ground.{abs}
use Rattle.model64.specs.Ground.{inverse_times}
use Rattle.model64.specs.Distance.{measure}
use Rattle.model64.specs.Sweep.{transform_at}
use Rattle.model.specs.SweepToi.{max_root_iterations, searched, stepped, sweep_pair}
use Rattle.model64.specs.SweepToi.{closest_by, tried, low, high}
use Rattle.model64.specs.Corners.{no_search}
use Rattle.separation64.specs.ByPoses.{search_by, end_a, end_b, between}
use Rattle.sweep_toi64.specs.declared.moment.Moment.{Moment}
use Rattle.sweep_toi64.specs.declared.bracket.Bracket.{Bracket}

-- ---- a time, with both poses
abbrev pub moment_at : Format → SweepTask → Float → Moment
moment_at f task t = record { t = t; xf_a = transform_at f task.sweep_a t; xf_b = transform_at f task.sweep_b t }

abbrev pub closest_in : Format → SweepTask → List Float → List Float → Moment → SimplexCache → Closest
closest_in f task a b m c =
    closest_by f task m.xf_a
    (measure f (inverse_times f m.xf_a m.xf_b) a task.radius_a b task.radius_b false sweep_pair c)

-- ---- the root search between the points u and v: k steps left
abbrev pub narrowed : SweepTask → Bracket → Float → Float → Bracket
narrowed task x t s =
    let up = lt task.target s in
    record {
      low = cond up t x.low;
      high = cond up x.high t;
      at_low = cond up s x.at_low;
      at_high = cond up x.at_high s;
      steps = x.steps + 1;
    }

-- from the times t1 and t2, with the separations s1 and s2
abbrev pub bracket : Float → Float → Float → Float → Bracket
bracket t1 t2 s1 s2 = record { low = t1; high = t2; at_low = s1; at_high = s2; steps = 0 }

-- where a search ends, after how many steps
pub record Root : Type 0 where
  pub at : Moment
  pub steps : ℕ

abbrev pub root : Moment → ℕ → Root
root m n = record { at = m; steps = n }

module _ (f : Format) (task : SweepTask) (g : SeparationFunction) (u v : Vector) (m2 : Moment) where
  unfoldable pub root_by : ℕ → Bracket → Root
  root_by zero x = root m2 x.steps
  root_by (suc k) x =
      let m = moment_at f task (tried f task x.steps x.low x.high x.at_low x.at_high) in
      let s = between f u v g.axis m.xf_a m.xf_b g.ty in
      cond (le (abs (sub f s task.target)) task.tolerance) (root m (x.steps + 1)) (root_by k (narrowed task x m.t s))

-- ---- push-backs from m2, the last time being m1: k left
-- a round ends with a verdict; or t1 has moved up to where the outlines reach the target, or all push-backs have left it where it was
pub data PushKind : Type 0 where
  Separated Failed Hit Landed Held : PushKind

-- how it ends, at which time, with the counts so far and the corners of the last search
pub record Pushed : Type 0 where
  pub kind : PushKind
  pub at : Moment
  pub counts : Counts
  pub corners : Corners

abbrev pub pushed : PushKind → Moment → Counts → Corners → Pushed
pushed kind m n c = record { kind = kind; at = m; counts = n; corners = c }

module _ (f : Format) (task : SweepTask) (a b : List Float) (g : SeparationFunction) (m1 : Moment) where
  unfoldable pub push_by : ℕ → Moment → Counts → Pushed
  push_by zero m2 n = pushed Held m1 n no_search
  push_by (suc k) m2 n =
      let x = search_by f a b g m2.xf_a m2.xf_b in
      let u = end_a f a g g.ty x.least.index_a in
      let v = end_b f b g g.ty x.least.index_b in
      let s1 = between f u v g.axis m1.xf_a m1.xf_b g.ty in
      let r = root_by f task g u v m2 max_root_iterations (bracket m1.t m2.t s1 x.least.separation) in
      let o = stepped (searched n) r.steps in
      cond (lt task.tolerance (sub f x.least.separation task.target)) (pushed Separated m1 (searched n) x.corners)
      (cond (le (low f task) x.least.separation) (pushed Landed m2 (searched n) x.corners)
      (cond (lt s1 (low f task)) (pushed Failed m1 (searched n) x.corners)
      (cond (le s1 (high f task)) (pushed Hit m1 (searched n) x.corners)
      (cond (eqb k 0) (pushed Held m1 o x.corners) (push_by k r.at o)))))
