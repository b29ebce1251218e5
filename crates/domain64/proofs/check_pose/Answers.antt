-- Written by tests/written/wide.py from domain, in f64.
-- `check_pose` meets its contract, by its tests and what its callees ensure. Assumes nothing.
use mathlib.Core.Path.{sym, ◌∙◌}
use Rattle.model.specs.Domain.{checked}
use Rattle.model64.specs.Domain.{checked_pose}
use Rattle.domain64.proofs.check_pose.Goals as goal

pub returns-then-bad_rotation : goal.returns-then-bad_rotation
unfolding checked checked_pose
returns-then-bad_rotation c = simp (sym c.bad_rotation.ensures ∙ c.if-bad_rotation.true)

pub returns-then-bad_vector : goal.returns-then-bad_vector
unfolding checked checked_pose
returns-then-bad_vector c = let t = c.before.before in
    simp (sym t.bad_rotation.ensures ∙ t.if-bad_rotation.false, sym c.bad_vector.ensures ∙ c.if-bad_vector.true)

pub returns : goal.returns
unfolding checked checked_pose
returns c = let t = c.before.before in
    simp (sym t.bad_rotation.ensures ∙ t.if-bad_rotation.false, sym c.bad_vector.ensures ∙ c.if-bad_vector.false)
