-- `pattern` meets its contract, by those of the two that it calls. Assumes nothing.
use mathlib.Core.Path.{◌∙◌}
use Rattle.root.proofs.pattern.Goals as goal

pub returns : goal.returns
returns c = (c.scaled.ensures.0, c.scaled.ensures.1 ∙ c.units_of-v.ensures.4)
