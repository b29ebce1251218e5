-- The corners of the separation searches, beside the sweep's own definitions: those of one search, those of all searches of a sweep in their order, and
-- a sweep's answer with the corners of the last one.
use Rattle.std.specs.Prelude.{ℕ, zero, suc, ◌-◌, cond, List, [], ◌∷◌, ◌++◌, Float}
use Rattle.std.specs.Float.{Format}
use Rattle.std.specs.Float.Ieee.{sub, lt, le}
use Rattle.model.specs.declared.Pose.{Pose}
use Rattle.model.specs.declared.Sweep.{Sweep}
use Rattle.model.specs.declared.SimplexCache.{SimplexCache}
use Rattle.model.specs.declared.SupportPair.{SupportPair}
use Rattle.model.specs.declared.SeparationType.{SeparationType}
use Rattle.model.specs.declared.SeparationType.TheVariants.{Points, FaceA, FaceB}
use Rattle.model.specs.declared.SeparationFunction.{SeparationFunction}
use Rattle.model.specs.declared.MinSeparation.{MinSeparation}
use Rattle.model.specs.declared.Corners.{Corners}
use Rattle.model.specs.declared.Search.{Search}
use Rattle.model.specs.declared.SweepTask.{SweepTask}
use Rattle.model.specs.declared.Closest.{Closest}
use Rattle.model.specs.declared.RootSearch.{RootSearch}
use Rattle.model.specs.declared.Counts.{Counts}
use Rattle.model.specs.declared.SweepAnswer.{SweepAnswer}
use Rattle.model.specs.declared.Swept.{Swept}
use Rattle.model.specs.Ground.{negate, rotate, inverse_rotate}
use Rattle.model.specs.Ground as Ground
use Rattle.model.specs.Second.{pair, support_pair}
use Rattle.model.specs.Sweep.{transform_at}
use Rattle.model.specs.Separation.{no_index, new_separation, evaluate, find_min_separation}
use Rattle.model.specs.SweepToi.{max_distance_iterations, max_push_back_iterations, max_root_iterations, called, no_counts, PushEnd, ended, moved, no_corners}
use Rattle.model.specs.SweepToi.{closest_at, root_from, low, high, push_from, advance, sweep_task, sweep_refusal, sweep_time_of_impact}

-- what a face side has
abbrev pub no_corner : SupportPair
no_corner = pair no_index no_index

abbrev pub corners : SupportPair → SupportPair → Corners
corners a b = record { a = a; b = b }

abbrev pub found : MinSeparation → Corners → Search
found m k = record { least = m; corners = k }

-- where no search ran
abbrev pub no_search : Corners
no_search = corners no_corner no_corner

-- the last of a list, after another
unfoldable pub last_of : Corners → List Corners → Corners
last_of c [] = c
last_of c (x ∷ xs) = last_of x xs

module _ (f : Format) where
  -- ---- one search, along the directions of `deepest_a` and `deepest_b`
  abbrev pub corners_a : List Float → SeparationFunction → Pose → Pose → SeparationType → SupportPair
  corners_a outline_a s pa pb Points = support_pair f outline_a (inverse_rotate f pa.rotation s.axis)
  corners_a outline_a s pa pb FaceA = no_corner
  corners_a outline_a s pa pb FaceB = support_pair f outline_a (inverse_rotate f pa.rotation (negate (rotate f pb.rotation s.axis)))

  abbrev pub corners_b : List Float → SeparationFunction → Pose → Pose → SeparationType → SupportPair
  corners_b outline_b s pa pb Points = support_pair f outline_b (inverse_rotate f pb.rotation (negate s.axis))
  corners_b outline_b s pa pb FaceA = support_pair f outline_b (inverse_rotate f pb.rotation (negate (rotate f pa.rotation s.axis)))
  corners_b outline_b s pa pb FaceB = no_corner

  module _ (outline_a outline_b : List Float) where
    unfoldable pub corners_at : SeparationFunction → Float → Corners
    corners_at s t =
        let pa = transform_at f s.sweep_a t in
        let pb = transform_at f s.sweep_b t in
        corners (corners_a outline_a s pa pb s.ty) (corners_b outline_b s pa pb s.ty)

    abbrev pub search : SeparationFunction → Float → Search
    search s t = found (find_min_separation f outline_a outline_b s t) (corners_at s t)

  -- ---- the searches of a sweep, turn by turn as `push_from` and `advance_from` go
  abbrev pub afterwards : PushEnd → (Float → Counts → List Corners) → List Corners
  afterwards (ended x) go = []
  afterwards (moved t n) go = go t n

  module _ (task : SweepTask) (outline_a outline_b : List Float) where
    unfoldable pub push_searches : SeparationFunction → Float → ℕ → Float → List Corners
    push_searches g t1 zero t2 = []
    push_searches g t1 (suc k) t2 =
        let m = find_min_separation f outline_a outline_b g t2 in
        let s1 = evaluate f outline_a outline_b g m.index_a m.index_b t1 in
        let r = root_from f task outline_a outline_b g m.index_a m.index_b t2 max_root_iterations t1 t2 s1 m.separation 0 in
        corners_at outline_a outline_b g t2
        ∷ cond (lt task.tolerance (sub f m.separation task.target)) []
        (cond (le (low f task) m.separation) []
        (cond (lt s1 (low f task)) []
        (cond (le s1 (high f task)) []
        (push_searches g t1 k r.t))))

    abbrev pub searches_by : Float → Closest → Counts → (Float → Counts → List Corners) → List Corners
    searches_by t1 x n go =
        let g = new_separation f task.sweep_a task.sweep_b outline_a outline_b x.cache t1 in
        cond (le x.distance (Ground.zero f)) []
        (cond (le x.distance (high f task)) []
        (push_searches g t1 max_push_back_iterations task.t_max
        ++ afterwards (push_from f task outline_a outline_b g t1 x max_push_back_iterations task.t_max n) go))

    unfoldable pub searches_from : ℕ → Float → SimplexCache → Counts → List Corners
    searches_from zero t1 c n = searches_by t1 (closest_at f task outline_a outline_b t1 c) (called n) (λ t m. [])
    searches_from (suc k) t1 c n =
        let x = closest_at f task outline_a outline_b t1 c in
        searches_by t1 x (called n) (λ t m. searches_from k t x.cache m)

    abbrev pub searches : List Corners
    searches = searches_from (max_distance_iterations - 1) (Ground.zero f) no_corners no_counts

-- ---- the answer with the corners of the last search
abbrev pub swept : SweepAnswer → Corners → Swept
swept x c = record { answer = x; corners = c }

-- of a task
unfoldable pub advanced : Format → SweepTask → List Float → List Float → Swept
advanced f task a b = swept (advance f task a b) (last_of no_search (searches f task a b))

-- of a call: the answer as ever
module _ (f : Format) (outline_a : List Float) (ra : Float) (wa : Sweep) (outline_b : List Float) (rb : Float) (wb : Sweep) (tmax slop : Float) where
  -- a refused sweep makes none
  abbrev pub searches_or_none : ℕ → List Corners
  searches_or_none zero = searches f (sweep_task f ra wa rb wb tmax slop) outline_a outline_b
  searches_or_none (suc n) = []

  abbrev pub sweep_searches : List Corners
  sweep_searches = searches_or_none (sweep_refusal f outline_a ra wa outline_b rb wb tmax slop)

  unfoldable pub sweep : Swept
  sweep = swept (sweep_time_of_impact f outline_a ra wa outline_b rb wb tmax slop) (last_of no_search sweep_searches)
