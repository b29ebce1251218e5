-- Written by tests/written/wide.py from separation, in f64.
-- `separation::find_min_separation` meets its contract, by what its callees ensure. Assumes nothing.
use lib.Ieee.{binary64}
use Rattle.separation64.proofs.Laws.{found-by}
use Rattle.separation64.proofs.separation.find_min_separation.Goals as goal

pub returns : goal.returns
returns c =
    let a = c.args in
    found-by binary64 a.points_a.now a.points_b.now a.fcn a.xf_a a.xf_b
    c.deepest_a-a.ensures c.deepest_b-b.ensures c.end_a-end_a.ensures c.end_b-end_b.ensures c.evaluate-separation.ensures
