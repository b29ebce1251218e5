-- `at_fraction::pose_at` meets its contract: each ending is its law. Assumes nothing.
use lib.Ieee.{binary32}
use Rattle.at_fraction.proofs.Call.{move-refused, time-refused, posed}
use Rattle.at_fraction.proofs.pose_at.Goals as goal

pub returns-in_err-check_sweeps : goal.returns-in_err-check_sweeps
returns-in_err-check_sweeps c =
    move-refused binary32 _ _ _ c.check_sweeps.ensures _ c.in_err-check_sweeps.was _ c.from_residual.ensures.1

pub returns-in_err-check_fraction : goal.returns-in_err-check_fraction
returns-in_err-check_fraction c =
    time-refused binary32 _ _ _ c.check_sweeps.ensures c.in_ok-check_sweeps.was
    _ c.check_fraction.ensures _ c.in_err-check_fraction.was _ c.from_residual-in_err-check_fraction.ensures.1

pub returns : goal.returns
returns c =
    posed binary32 _ _ _ c.check_sweeps.ensures c.in_ok-check_sweeps.was
    _ c.check_fraction.ensures c.in_ok-check_fraction.was _ c.transform_at.ensures
