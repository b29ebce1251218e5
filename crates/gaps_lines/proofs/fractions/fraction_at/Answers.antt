-- `gaps_lines::fractions::fraction_at` meets its contract: a u16 is held whole by an f32. Assumes nothing.
use mathlib.Core.Path.{refl}
use Rattle.gaps_lines.specs.Gaps.{fraction_at}
use Rattle.gaps_lines.proofs.fractions.fraction_at.Goals as goal

pub returns : goal.returns
unfolding fraction_at
returns c = refl
