-- Written by tests/written/wide.py from list_calls, in f64.
-- `list_calls::numbers::pose_of` meets its contract, by what `point` ensures. Assumes nothing.
use Rattle.list_calls64.proofs.numbers.pose_of.Goals as goal

pub returns : goal.returns
returns c = rw (c.point-translation.ensures, c.point-turned.ensures)
