-- `clearance_lines::put::put_place` meets its contract: its text is that of the pattern, and there is room. Assumes nothing.
use Rattle.text.proofs.Written.{there}
use Rattle.clearance_lines.proofs.put.put_place.Goals as goal

pub returns : goal.returns
returns c = rw c.place_bits.ensures at (there 9 c.put_hex.ensures c.requires)
