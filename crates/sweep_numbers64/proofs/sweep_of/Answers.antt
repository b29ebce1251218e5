-- Written by tests/written/wide.py from sweep_numbers, in f64.
-- `sweep_numbers::sweep_of` meets its contract, by what its callees ensure. Assumes nothing.
use Rattle.model64.specs.Work.{sweep_for}
use Rattle.sweep_numbers64.proofs.sweep_of.Goals as goal

pub returns : goal.returns
unfolding sweep_for
returns c = rw (
  c.sweep_time_of_impact.ensures,
  c.move_at-move_b.ensures,
  c.move_at-move_a.ensures,
  c.point-limits.ensures,
  c.point-radii.ensures,
)
