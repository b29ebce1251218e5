-- Written by tests/written/wide.py from sweep_numbers, in f64.
-- `sweep_numbers::move_at` meets its contract, by what its callees ensure. Assumes nothing.
use Rattle.model64.specs.Work.{move_at}
use Rattle.sweep_numbers64.proofs.move_at.Goals as goal

pub returns : goal.returns
unfolding move_at
returns c = simp (
  c.turn-q2.ensures,
  c.point-2.ensures,
  c.turn-q1.ensures,
  c.point.ensures,
  c.point-c2.ensures,
  c.point-c1.ensures,
  c.point-local_center.ensures,
)
