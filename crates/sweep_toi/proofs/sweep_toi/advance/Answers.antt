-- `sweep_toi::advance` meets its contract: three loops inside one another. Of each the invariant is that what is left at its head gives the whole: a root
-- search, a round of push-backs, the answer; and that the counts have room for the turns that are left. Assumes nothing.
use Prim.Native.Nat.{ℕ, ◌<◌, ◌≤◌, ◌-◌}
use native.Mathlib.Omega.{arith}
use mathlib.Core.Bool.{false}
use mathlib.Core.List.{List}
use mathlib.Core.Path.{◌≡◌, refl, ◌∙◌}
use lib.Ieee.{Float, binary32, sub, lt, le}
use Rattle.model.specs.declared.Vector.{Vector}
use Rattle.model.specs.declared.SimplexCache.{SimplexCache}
use Rattle.model.specs.declared.SeparationFunction.{SeparationFunction}
use Rattle.model.specs.declared.Search.{Search}
use Rattle.model.specs.declared.SweepTask.{SweepTask}
use Rattle.model.specs.declared.Closest.{Closest}
use Rattle.model.specs.declared.Counts.{Counts}
use Rattle.model.specs.declared.Corners.{Corners}
use Rattle.model.specs.Ground as Ground
use Rattle.model.specs.SweepToi.{called, searched, tried, low, high}
use Rattle.model.specs.Corners.{advanced}
use Rattle.separation.specs.ByPoses.{new_separation_by, search_by, end_a, end_b, between}
use Rattle.sweep_toi.specs.declared.moment.Moment.{Moment}
use Rattle.sweep_toi.specs.declared.bracket.Bracket.{Bracket}
use Rattle.sweep_toi.specs.Rounds.{moment_at, closest_in, narrowed, bracket, Root, root, root_by, Pushed, pushed, push_by}
use Rattle.sweep_toi.proofs.Steps.{Stepped, steps-counted, root-lands, root-goes-on, root-runs-out}
use Rattle.sweep_toi.proofs.Steps.{Turned, room-left, push-separates, push-lands, push-fails, push-hits, Searching, one_more, push-goes-on, push-holds}
use Rattle.sweep_toi.proofs.Laws.{calling, at-the-start, Called, call-overlaps, call-hits, at-moment, same-moment, closest-there, told-as, grown-so}
use Rattle.sweep_toi.proofs.Laws.{Rounded, calls-counted, round-separates, round-fails, round-hits}
use Rattle.sweep_toi.proofs.Laws.{kind_of, ends_there, call-left, goes-on-there, stays-there}
use Rattle.sweep_toi.proofs.sweep_toi.advance.Goals.{Joined-s2-target-2, then-s2-target-2, else-s2-target-2+else-s1-target+else-s1-target-2+then-same_time-left, then-abs-tolerance, else-abs-tolerance+then-bracket-eq-MAX_ROOT_ITERATIONS}
use Rattle.sweep_toi.proofs.sweep_toi.advance.Goals as goal

-- ---- what the laws speak of, each by what the code has of it: a distance call, up to its count
a-call : {w : SweepTask} {a b : List Float} (m1 : Moment) {k : SimplexCache} {n : Counts} {e : Corners} {x : Closest} {o : Counts} →
    m1 ≡ moment_at binary32 w m1.t → x ≡ closest_in binary32 w a b m1 k → o ≡ called n →
    calling binary32 w a b m1.t k n e ≡ advanced binary32 w a b → Called binary32 w a b m1.t k n e x o
a-call m1 there is counted rest = record { there = closest-there binary32 _ _ _ m1 _ _ there is; counted = counted; rest = rest }

-- the whole round of push-backs along the axis that it gave
a-round : {w : SweepTask} {a b : List Float} (m1 end : Moment) {k : SimplexCache} {n : Counts} {e : Corners} {x : Closest} {o : Counts} →
    {g : SeparationFunction} {p : Pushed} → m1 ≡ moment_at binary32 w m1.t → Called binary32 w a b m1.t k n e x o → n.distance_calls ≤ 19 →
    le x.distance (Ground.zero binary32) ≡ false → le x.distance (high binary32 w) ≡ false → end ≡ moment_at binary32 w w.t_max →
    g ≡ new_separation_by binary32 w.sweep_a w.sweep_b a b x.cache m1.xf_a m1.xf_b → p ≡ push_by binary32 w a b g m1 8 end o →
    Rounded binary32 w a b m1 k n e x o p
a-round m1 end there call few apart far at is made = record {
  call = call;
  apart = apart;
  far = far;
  told = told-as binary32 _ _ _ m1 end _ _ _ _ there at is made;
  grown = grown-so binary32 _ _ _ _ m1 end _ _ _ call.counted made;
  few = few;
}

-- a push-back, up to its count
a-turn : {w : SweepTask} {a b : List Float} {g : SeparationFunction} {m1 m2 : Moment} {n : Counts} {l : ℕ} {whole : Pushed} {x : Search} {o : Counts} →
    1 ≤ l → x ≡ search_by binary32 a b g m2.xf_a m2.xf_b → o ≡ searched n → push_by binary32 w a b g m1 l m2 n ≡ whole →
    Turned binary32 w a b g m1 m2 n l (l - 1) whole x o
a-turn h found counted rest = record { left = omega (arith, h); found = found; counted = counted; rest = rest }

-- a push-back that goes on to its root search, which ends at the moment m after j steps
a-search : {w : SweepTask} {a b : List Float} {g : SeparationFunction} (m1 : Moment) {m2 : Moment} {x : Search} {u v : Vector} {s1 : Float} (m : Moment) (j : ℕ) →
    x ≡ search_by binary32 a b g m2.xf_a m2.xf_b → lt w.tolerance (sub binary32 x.least.separation w.target) ≡ false →
    le (low binary32 w) x.least.separation ≡ false → u ≡ end_a binary32 a g g.ty x.least.index_a → v ≡ end_b binary32 b g g.ty x.least.index_b →
    s1 ≡ between binary32 u v g.axis m1.xf_a m1.xf_b g.ty → lt s1 (low binary32 w) ≡ false → le s1 (high binary32 w) ≡ false →
    root m j ≡ root_by binary32 w g u v m2 50 (bracket m1.t m2.t s1 x.least.separation) → Searching binary32 w a b g m1 m2 x u v s1 (root m j)
a-search m1 m j found apart below at-a at-b value over above made = record {
  found = found;
  apart = apart;
  below = below;
  point-a = at-a;
  point-b = at-b;
  value = value;
  over = over;
  above = above;
  root = made;
}

-- a root step, up to its test
a-step : {w : SweepTask} {g : SeparationFunction} {u v : Vector} {m2 : Moment} {x : Bracket} {whole : Root} {t : Float} {m : Moment} {s d : Float} →
    {y : Bracket} → x.steps < 50 → t ≡ tried binary32 w x.steps x.low x.high x.at_low x.at_high → m ≡ moment_at binary32 w t →
    s ≡ between binary32 u v g.axis m.xf_a m.xf_b g.ty → d ≡ Ground.abs (sub binary32 s w.target) → y ≡ narrowed w x m.t s →
    root_by binary32 w g u v m2 (50 - x.steps) x ≡ whole → Stepped binary32 w g u v m2 x whole t m s d y
a-step left time there value off next rest = record { left = left; time = time; there = there; value = value; off = off; next = next; rest = rest }

pub advance-init : goal.advance-init
advance-init c = rw (c.at_time.ensures, c.no_search.ensures) (refl, omega arith, omega arith, omega arith, at-the-start binary32 _ _ _)

pub loop-a-preserved : goal.loop-a-preserved
loop-a-preserved c =
    let i = c.loop-a.invariant in
    let step = a-step i.0 c.tried.ensures c.at_time-m.ensures c.evaluate-s.ensures c.abs.ensures c.narrowed-bracket.ensures i.1 in
    let s = steps-counted step in
    (omega (arith, s, i.0, c.if-bracket-eq-MAX_ROOT_ITERATIONS.false), root-goes-on step c.if-abs-tolerance.false)

pub push_back-preserved : goal.push_back-preserved
push_back-preserved c =
    let q = c.push_back.invariant in
    let turn = a-turn q.0 c.find_min_separation-found.ensures c.searched-counts.ensures q.5 in
    let j = c.loop-a.invariant in
    let step = a-step j.0 c.tried.ensures c.at_time-m.ensures c.evaluate-s.ensures c.abs.ensures c.narrowed-bracket.ensures j.1 in
    let s = steps-counted step in
    let few : c.narrowed-bracket.result.steps ≤ 50 = omega (arith, s, j.0) in
    let less : c.push_back.push.left - 1 ≤ 8 = omega (arith, q.1) in
    let there : c.if-abs-tolerance.next ≡ moment_at binary32 c.args.task c.if-abs-tolerance.next.t =
    elim c.if-abs-tolerance.branch [
      | then-abs-tolerance v ↦ rw v.next-is (at-moment binary32 c.args.task c.at_time-m.result _ c.at_time-m.ensures)
      | else-abs-tolerance+then-bracket-eq-MAX_ROOT_ITERATIONS v ↦ rw v.next-is q.4
    ] in
    let search = a-search c.advance.reached.m1 c.if-abs-tolerance.next c.narrowed-bracket.result.steps c.find_min_separation-found.ensures c.if-s2-target.false
    c.if-s2-target-2.false c.end_a-a.ensures c.end_b-b.ensures
    c.evaluate-s1.ensures c.if-s1-target.false c.if-s1-target-2.false
    (elim c.if-abs-tolerance.branch [
      | then-abs-tolerance v ↦ rw v.next-is (root-lands step v.if-abs-tolerance.true)
      | else-abs-tolerance+then-bracket-eq-MAX_ROOT_ITERATIONS v ↦
          rw v.next-is (root-runs-out step v.if-abs-tolerance.false v.if-bracket-eq-MAX_ROOT_ITERATIONS.true)
    ]) in
    let r = room-left c.push_back.push.counts c.push_back.push.left _ c.searched-counts.ensures c.stepped-counts.ensures few q.0 q.2 q.3 in (
      one_more c.same_time.result (c.push_back.push.left - 1) c.if-same_time-left.false,
      less,
      r.0,
      r.1,
      there,
      rw c.stepped-counts.ensures (push-goes-on search turn c.same_time.result c.if-same_time-left.false),
    )

-- ---- where a round is left without a verdict
rounded : (c : Joined-s2-target-2) →
    let l = c.advance.reached in
    let r = c.if-s2-target-2.round in
    Rounded binary32 c.args.task c.args.points_a.now c.args.points_b.now l.m1 l.cache l.counts l.corners c.closest_at-closest.result
    c.called-one_more.result (pushed (kind_of r.held) r.at r.counts r.corners)
rounded c =
    let i = c.advance.invariant in
    let q = c.push_back.invariant in
    let call = a-call c.advance.reached.m1 i.0 c.closest_at-closest.ensures c.called-one_more.ensures i.4 in
    let turn = a-turn q.0 c.find_min_separation-found.ensures c.searched-counts.ensures q.5 in
    a-round c.advance.reached.m1 c.at_time-end.result i.0 call i.1 c.if-closest.false c.if-closest-target.false c.at_time-end.ensures
    c.new_separation-fcn.ensures
    (elim c.if-s2-target-2.branch [
      | then-s2-target-2 w ↦ rw w.round-is (push-lands turn c.if-s2-target.false w.if-s2-target-2.true)
      | else-s2-target-2+else-s1-target+else-s1-target-2+then-same_time-left w ↦
          let j = w.loop-a.invariant in
          let step = a-step j.0 w.tried.ensures w.at_time-m.ensures w.evaluate-s.ensures w.abs.ensures w.narrowed-bracket.ensures j.1 in
          let there : w.if-abs-tolerance.next ≡ moment_at binary32 c.args.task w.if-abs-tolerance.next.t =
          elim w.if-abs-tolerance.branch [
            | then-abs-tolerance v ↦ rw v.next-is (at-moment binary32 c.args.task w.at_time-m.result _ w.at_time-m.ensures)
            | else-abs-tolerance+then-bracket-eq-MAX_ROOT_ITERATIONS v ↦ rw v.next-is q.4
          ] in
          let search = a-search c.advance.reached.m1 w.if-abs-tolerance.next w.narrowed-bracket.result.steps c.find_min_separation-found.ensures c.if-s2-target.false
          w.if-s2-target-2.false w.end_a-a.ensures w.end_b-b.ensures
          w.evaluate-s1.ensures w.if-s1-target.false w.if-s1-target-2.false
          (elim w.if-abs-tolerance.branch [
            | then-abs-tolerance v ↦ rw v.next-is (root-lands step v.if-abs-tolerance.true)
            | else-abs-tolerance+then-bracket-eq-MAX_ROOT_ITERATIONS v ↦
                rw v.next-is (root-runs-out step v.if-abs-tolerance.false v.if-bracket-eq-MAX_ROOT_ITERATIONS.true)
          ]) in
          let again = same-moment binary32 c.args.task w.if-abs-tolerance.next c.push_back.push.m2 there q.4 in
          rw (w.round-is, w.pushed_on.ensures, w.stepped-counts.ensures)
          (push-holds search turn w.same_time.result (λ e. again (w.same_time.ensures e)) w.if-same_time-left.true)
    ])

pub overflow_sub-left-then-round-same_cache : goal.overflow_sub-left-then-round-same_cache
overflow_sub-left-then-round-same_cache c = omega (arith, calls-counted (rounded (goal.at.overflow_sub-left-then-round-same_cache c).Joined-s2-target-2))

pub called_on-requires : goal.called_on-requires
called_on-requires c =
    let r = rounded (goal.at.called_on-requires c).Joined-s2-target-2 in
    let g = r.grown in
    let h = c.advance.invariant in
    record {
      distance_calls_bound = (calls-counted r, omega (arith, g.few-searches, h.1, h.2), omega (arith, g.few-steps, h.1, h.3), omega arith);
      distance_calls_bound_2 = (omega (arith, g.calls), g.searches, g.steps);
    }

pub advance-smaller : goal.advance-smaller
advance-smaller c =
    let r = rounded (goal.at.advance-smaller c).Joined-s2-target-2 in
    omega (arith, r.grown.calls, c.advance.invariant.1)

pub advance-preserved : goal.advance-preserved
advance-preserved c =
    let r = rounded (goal.at.advance-preserved c).Joined-s2-target-2 in
    let g = r.grown in
    let h = c.advance.invariant in
    let held = c.if-s2-target-2.round.held in
    let more = c.if-counts-eq-MAX_DISTANCE_ITERATIONS.false in (
      r.told.there,
      call-left held r more,
      omega (arith, g.calls, g.few-searches, h.2),
      omega (arith, g.calls, g.few-steps, h.3),
      goes-on-there held r more,
    )

pub returns-then-closest : goal.returns-then-closest
returns-then-closest c =
    let i = c.advance.invariant in
    c.overlapped.ensures ∙ call-overlaps (a-call c.advance.reached.m1 i.0 c.closest_at-closest.ensures c.called-one_more.ensures i.4) c.if-closest.true

pub returns-then-closest-target : goal.returns-then-closest-target
returns-then-closest-target c =
    let i = c.advance.invariant in
    c.hit.ensures
    ∙ call-hits (a-call c.advance.reached.m1 i.0 c.closest_at-closest.ensures c.called-one_more.ensures i.4) c.if-closest.false c.if-closest-target.true

pub returns-then-s2-target : goal.returns-then-s2-target
returns-then-s2-target c =
    let i = c.advance.invariant in
    let q = c.push_back.invariant in
    let call = a-call c.advance.reached.m1 i.0 c.closest_at-closest.ensures c.called-one_more.ensures i.4 in
    let turn = a-turn q.0 c.find_min_separation-found.ensures c.searched-counts.ensures q.5 in
    c.separated.ensures
    ∙ round-separates
    (a-round c.advance.reached.m1 c.at_time-end.result i.0 call i.1 c.if-closest.false c.if-closest-target.false c.at_time-end.ensures
    c.new_separation-fcn.ensures (push-separates turn c.if-s2-target.true))

pub returns-then-s1-target : goal.returns-then-s1-target
returns-then-s1-target c =
    let i = c.advance.invariant in
    let q = c.push_back.invariant in
    let call = a-call c.advance.reached.m1 i.0 c.closest_at-closest.ensures c.called-one_more.ensures i.4 in
    let turn = a-turn q.0 c.find_min_separation-found.ensures c.searched-counts.ensures q.5 in
    c.failed.ensures
    ∙ round-fails
    (a-round c.advance.reached.m1 c.at_time-end.result i.0 call i.1 c.if-closest.false c.if-closest-target.false c.at_time-end.ensures
    c.new_separation-fcn.ensures
    (push-fails turn c.if-s2-target.false c.if-s2-target-2.false c.end_a-a.ensures c.end_b-b.ensures c.evaluate-s1.ensures c.if-s1-target.true))

pub returns-then-s1-target-2 : goal.returns-then-s1-target-2
returns-then-s1-target-2 c =
    let i = c.advance.invariant in
    let q = c.push_back.invariant in
    let call = a-call c.advance.reached.m1 i.0 c.closest_at-closest.ensures c.called-one_more.ensures i.4 in
    let turn = a-turn q.0 c.find_min_separation-found.ensures c.searched-counts.ensures q.5 in
    c.hit-then-s1-target-2.ensures
    ∙ round-hits
    (a-round c.advance.reached.m1 c.at_time-end.result i.0 call i.1 c.if-closest.false c.if-closest-target.false c.at_time-end.ensures
    c.new_separation-fcn.ensures
    (push-hits turn c.if-s2-target.false c.if-s2-target-2.false c.end_a-a.ensures c.end_b-b.ensures c.evaluate-s1.ensures c.if-s1-target.false
    c.if-s1-target-2.true))

pub returns-then-counts-eq-MAX_DISTANCE_ITERATIONS : goal.returns-then-counts-eq-MAX_DISTANCE_ITERATIONS
returns-then-counts-eq-MAX_DISTANCE_ITERATIONS c =
    c.failed_at.ensures
    ∙ ends_there c.if-s2-target-2.round.held (rounded (goal.at.returns-then-counts-eq-MAX_DISTANCE_ITERATIONS c).Joined-s2-target-2) c.if-counts-eq-MAX_DISTANCE_ITERATIONS.true

pub returns-then-round-same_cache : goal.returns-then-round-same_cache
returns-then-round-same_cache c =
    let r = rounded (goal.at.returns-then-round-same_cache c).Joined-s2-target-2 in
    c.failed_at-then-round-same_cache.ensures
    ∙ rw c.called_on.ensures
    (stays-there c.if-s2-target-2.round.held c.same_cache.result _ _ _ r c.if-counts-eq-MAX_DISTANCE_ITERATIONS.false c.same_cache.ensures
    c.if-round-same_cache.true)
