-- `sweep_toi::closest_at` meets its contract, by what its callees ensure. Assumes nothing.
use mathlib.Core.Path.{◌∙◌}
use Rattle.sweep_toi.proofs.moment.closest_at.Goals as goal

pub returns : goal.returns
returns c = c.in_world.ensures ∙ rw (c.measure-measured.ensures, c.inv_mul-pos12.ensures)
