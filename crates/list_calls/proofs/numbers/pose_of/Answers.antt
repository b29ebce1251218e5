-- `list_calls::numbers::pose_of` meets its contract, by what `point` ensures. Assumes nothing.
use Rattle.list_calls.proofs.numbers.pose_of.Goals as goal

pub returns : goal.returns
returns c = rw (c.point-translation.ensures, c.point-turned.ensures)
