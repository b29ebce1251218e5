-- `sweep_toi::at_time` meets its contract, by the poses. Assumes nothing.
use Rattle.sweep_toi.proofs.moment.at_time.Goals as goal

pub returns : goal.returns
returns c = rw (c.transform_at-xf_a.ensures, c.transform_at-xf_b.ensures)
