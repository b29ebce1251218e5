-- Written by tests/written/wide.py from distance, in f64.
-- `proxy_distance::apart` meets its contract, by its test and what its callees ensure. Assumes nothing.
use Rattle.distance64.proofs.proxy_distance.apart.Goals as goal

pub returns-then-use_radii : goal.returns-then-use_radii
returns-then-use_radii c = simp (
  c.if-use_radii.true,
  c.max-shortened.ensures,
  c.sub-point_b.ensures,
  c.scale-then-use_radii.ensures,
  c.add-point_a.ensures,
  c.scale.ensures,
  c.distance-between.ensures,
  c.normalize_or_zero-normal.ensures,
)

pub returns-else-use_radii : goal.returns-else-use_radii
returns-else-use_radii c = simp (c.if-use_radii.false, c.distance-between.ensures, c.normalize_or_zero-normal.ensures)
