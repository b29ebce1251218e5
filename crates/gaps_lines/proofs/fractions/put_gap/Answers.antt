-- `gaps_lines::fractions::put_gap` meets its contract, by what its callees ensure. Assumes nothing.
use Rattle.gaps_lines.specs.Gaps.{gap_at}
use Rattle.gaps_lines.specs.Pieces.{gap_text}
use Rattle.gaps_lines.proofs.fractions.put_gap.Goals as goal

pub returns : goal.returns
unfolding gap_text gap_at
returns c = rw (c.gap-apart.ensures, c.fraction_at-fraction.ensures) at c.put_float.ensures
