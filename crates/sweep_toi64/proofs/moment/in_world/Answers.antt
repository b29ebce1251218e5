-- Written by tests/written/wide.py from sweep_toi, in f64.
-- `sweep_toi::in_world` meets its contract, by what its callees ensure. Assumes nothing.
use Rattle.sweep_toi64.proofs.moment.in_world.Goals as goal

pub returns : goal.returns
returns c =
    rw (
      c.add-point.ensures,
      c.scale-3.ensures,
      c.add.ensures,
      c.sub-point_b.ensures,
      c.scale-2.ensures,
      c.transform_point-2.ensures,
      c.add-point_a.ensures,
      c.scale.ensures,
      c.transform_point.ensures,
      c.rotate_vec-normal.ensures,
    )
