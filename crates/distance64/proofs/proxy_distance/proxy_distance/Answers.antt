-- Written by tests/written/wide.py from distance, in f64.
-- `proxy_distance::proxy_distance` meets its contract: each ending is its law. Assumes nothing.
use lib.Ieee.{binary64}
use Rattle.distance64.proofs.Call.{pair-refused, pose-refused, cache-refused, all-passed}
use Rattle.distance64.proofs.proxy_distance.proxy_distance.Goals as goal

pub returns-in_default : goal.returns-in_default
returns-in_default c =
    pair-refused binary64 _ _ _ _ _ _ _ _ _ c.check_pair-outlines.ensures _ c.in_default.is _ c.refusal-number.ensures

pub returns-in_default-pose : goal.returns-in_default-pose
returns-in_default-pose c =
    pose-refused binary64 _ _ _ _ _ _ _ _
    _ c.check_pair-outlines.ensures c.in-Ok.is
    _ c.check_pose-pose.ensures _ c.in_default-pose.is _ c.pose_refusal-number.ensures

pub returns-in_default-owned : goal.returns-in_default-owned
returns-in_default-owned c =
    cache-refused binary64 _ _ _ _ _ _ _ _
    _ c.check_pair-outlines.ensures c.in-Ok.is
    _ c.check_pose-pose.ensures _ c.in-Ok-pose.is
    _ c.check_cache-owned.ensures _ c.in_default-owned.is _ c.refusal-number-in_default-owned.ensures

pub returns : goal.returns
returns c =
    all-passed binary64 _ _ _ _ _ _ _ _
    _ c.check_pair-outlines.ensures c.in-Ok.is
    _ c.check_pose-pose.ensures _ c.in-Ok-pose.is
    _ c.check_cache-owned.ensures c.in-Ok-owned.is _ c.measure-measured.ensures
