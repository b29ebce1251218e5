-- Written by tests/written/wide.py from sweep_toi, in f64.
-- `sweep_toi::advance` meets its contract: three loops inside one another. Of each the invariant is that what is left at its head gives the whole: a root
-- search, a round of push-backs, the answer; and that the counts have room for the turns that are left. Assumes nothing.
use Prim.Native.Nat.{◌<◌, ◌≤◌, ◌+◌, ◌*◌, ◌-◌}
use mathlib.Core.Path.{◌≡◌}
use lib.Ieee.{binary64}
use Rattle.model64.specs.Corners.{advanced}
use Rattle.sweep_toi64.specs.Rounds.{moment_at, root_by, push_by}
use Rattle.sweep_toi64.proofs.Laws.{calling}
use Rattle.sweep_toi64.proofs.sweep_toi.advance.Given as goal

-- ---- the invariants, from the inside out: the bracket, the push-back, what is reached
abbrev pub invariant-loop-a : goal.invariant-loop-a
invariant-loop-a l =
    (l.bracket.steps < 50) × (root_by binary64 l.task l.fcn l.a l.b l.m2 (50 - l.bracket.steps) l.bracket ≡ root_by binary64 l.task l.fcn l.a l.b l.m2 50 l.initial.bracket)

abbrev pub decreases-loop-a : goal.decreases-loop-a
decreases-loop-a l = 50 - l.bracket.steps

abbrev pub invariant-push_back : goal.invariant-push_back
invariant-push_back l =
    (1 ≤ l.push.left)
    × (l.push.left ≤ 8)
    × (l.push.counts.searches + l.push.left ≤ 160)
    × (l.push.counts.root_steps + 50 * l.push.left ≤ 8000)
    × (l.push.m2 ≡ moment_at binary64 l.task l.push.m2.t)
    × (push_by binary64 l.task l.points_a l.points_b l.fcn l.m1 l.push.left l.push.m2 l.push.counts
    ≡ push_by binary64 l.task l.points_a l.points_b l.fcn l.m1 8 l.initial.push.m2 l.initial.push.counts)

abbrev pub decreases-push_back : goal.decreases-push_back
decreases-push_back l = l.push.left

abbrev pub invariant-advance : goal.invariant-advance
invariant-advance l =
    (l.reached.m1 ≡ moment_at binary64 l.task l.reached.m1.t)
    × (l.reached.counts.distance_calls ≤ 19)
    × (l.reached.counts.searches ≤ 8 * l.reached.counts.distance_calls)
    × (l.reached.counts.root_steps ≤ 400 * l.reached.counts.distance_calls)
    × (calling binary64 l.task l.points_a l.points_b l.reached.m1.t l.reached.cache l.reached.counts l.reached.corners
    ≡ advanced binary64 l.task l.points_a l.points_b)

abbrev pub decreases-advance : goal.decreases-advance
decreases-advance l = 20 - l.reached.counts.distance_calls
