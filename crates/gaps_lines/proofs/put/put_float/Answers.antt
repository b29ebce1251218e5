-- `gaps_lines::put::put_float` meets its contract: its text is that of the pattern, and there is room. Assumes nothing.
use Rattle.text.proofs.Written.{there}
use Rattle.gaps_lines.proofs.put.put_float.Goals as goal

pub returns : goal.returns
returns c = rw c.to_bits.ensures at (there 9 c.put_hex.ensures c.requires)
