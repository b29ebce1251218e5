-- `at_fraction::gap_at` meets its contract: each ending is its law. Assumes nothing.
use lib.Ieee.{binary32}
use Rattle.at_fraction.proofs.Call.{pair-refused, moves-refused, fraction-refused, measured}
use Rattle.at_fraction.proofs.gap_at.Goals as goal

pub returns-in_default : goal.returns-in_default
returns-in_default c =
    pair-refused binary32 _ _ _ _ _ _ c.check_pair-pair.ensures _ c.in_default.is _ c.refusal-number.ensures

pub returns-in_err-check_sweeps : goal.returns-in_err-check_sweeps
returns-in_err-check_sweeps c =
    moves-refused binary32 _ _ _ _ _ _ c.check_pair-pair.ensures c.in-Ok.is
    _ c.check_sweeps.ensures _ c.in_err-check_sweeps.was _ c.from_residual.ensures.1

pub returns-in_err-check_fraction : goal.returns-in_err-check_fraction
returns-in_err-check_fraction c =
    fraction-refused binary32 _ _ _ _ _ _ c.check_pair-pair.ensures c.in-Ok.is
    _ c.check_sweeps.ensures c.in_ok-check_sweeps.was
    _ c.check_fraction.ensures _ c.in_err-check_fraction.was _ c.from_residual-in_err-check_fraction.ensures.1

pub returns : goal.returns
returns c =
    measured binary32 _ _ _ _ _ _ c.check_pair-pair.ensures c.in-Ok.is
    _ c.check_sweeps.ensures c.in_ok-check_sweeps.was
    _ c.check_fraction.ensures c.in_ok-check_fraction.was _ c.gap.ensures
