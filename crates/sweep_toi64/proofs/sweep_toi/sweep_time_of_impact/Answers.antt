-- Written by tests/written/wide.py from sweep_toi, in f64.
-- `sweep_toi::sweep_time_of_impact` meets its contract: each ending is its law. Assumes nothing.
use mathlib.Core.Path.{◌∙◌}
use lib.Ieee.{binary64}
use Rattle.sweep_toi64.proofs.Call.{pair-refused, sweeps-refused, fraction-refused, slop-refused, all-passed}
use Rattle.sweep_toi64.proofs.sweep_toi.sweep_time_of_impact.Goals as goal

pub returns-in_default : goal.returns-in_default
returns-in_default c =
    c.refused.ensures
    ∙ pair-refused binary64 _ _ _ _ _ _ _ _ _ c.check_pair-pair.ensures _ c.in_default.is _ c.refusal.ensures

pub returns-in_default-sweeps : goal.returns-in_default-sweeps
returns-in_default-sweeps c =
    c.refused-in_default-sweeps.ensures
    ∙ sweeps-refused binary64 _ _ _ _ _ _ _ _
    _ c.check_pair-pair.ensures c.in-Ok.is
    _ c.check_sweeps-sweeps.ensures _ c.in_default-sweeps.is _ c.refusal-in_default-sweeps.ensures

pub returns-in_default-fraction : goal.returns-in_default-fraction
returns-in_default-fraction c =
    c.refused-in_default-fraction.ensures
    ∙ fraction-refused binary64 _ _ _ _ _ _ _ _
    _ c.check_pair-pair.ensures c.in-Ok.is
    _ c.check_sweeps-sweeps.ensures c.in-Ok-sweeps.is
    _ c.check_fraction-fraction.ensures _ c.in_default-fraction.is _ c.refusal-in_default-fraction.ensures

pub returns-in_default-slop : goal.returns-in_default-slop
returns-in_default-slop c =
    c.refused-in_default-slop.ensures
    ∙ slop-refused binary64 _ _ _ _ _ _ _ _
    _ c.check_pair-pair.ensures c.in-Ok.is
    _ c.check_sweeps-sweeps.ensures c.in-Ok-sweeps.is
    _ c.check_fraction-fraction.ensures c.in-Ok-fraction.is
    _ c.check_slop-slop.ensures _ c.in_default-slop.is _ c.refusal-in_default-slop.ensures

pub returns : goal.returns
returns c =
    c.advance.ensures
    ∙ all-passed binary64 _ _ _ _ _ _ _ _
    _ c.check_pair-pair.ensures c.in-Ok.is
    _ c.check_sweeps-sweeps.ensures c.in-Ok-sweeps.is
    _ c.check_fraction-fraction.ensures c.in-Ok-fraction.is
    _ c.check_slop-slop.ensures c.in-Ok-slop.is
    _ c.sweep_task-task.ensures
