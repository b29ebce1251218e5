-- Written by tests/written/wide.py from distance, in f64.
-- `proxy_distance::measure` meets its contract: each ending is its law. Assumes nothing.
use lib.Ieee.{binary64}
use Rattle.model64.proofs.DistanceCall.{rounds-count-most}
use Rattle.distance64.proofs.Call.{touching-measured, apart-measured}
use Rattle.distance64.proofs.proxy_distance.measure.Goals as goal

pub write_cache-written-requires : goal.write_cache-written-requires
write_cache-written-requires c = let x = c.args in
    rw c.rounds-ended.ensures (rounds-count-most binary64 x.points_a.now x.points_b.now x.pos12 x.cache)

pub returns-in-Touching : goal.returns-in-Touching
returns-in-Touching c = touching-measured binary64 _ _ _ _ _ _ _ _ _ c.rounds-ended.ensures _
    c.witness_points-w.ensures c.in-Touching.is _ c.zero-normal.ensures

pub returns-in_default : goal.returns-in_default
returns-in_default c = let r = c.rounds-ended in
    apart-measured binary64 _ _ _ _ _ _ _ _ _ r.ensures _ c.witness_points-w.ensures c.in_default.not-Touching _ c.apart-output.ensures _
    c.write_cache-written.ensures
