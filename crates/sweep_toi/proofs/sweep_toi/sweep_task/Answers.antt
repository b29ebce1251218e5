-- `sweep_toi::sweep_task` meets its contract, by what its callees ensure. Assumes nothing.
use Rattle.model.specs.SweepToi.{sweep_task}
use Rattle.sweep_toi.proofs.sweep_toi.sweep_task.Goals as goal

pub returns : goal.returns
unfolding sweep_task
returns c = rw (c.max-target.ensures, c.shifted-sweep_b.ensures, c.shifted-sweep_a.ensures)
