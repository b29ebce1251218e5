-- `fields::put_float` meets its contract: its text is that of the pattern, and there is room. Assumes nothing.
use Rattle.text.proofs.Written.{there}
use Rattle.fields.specs.Floats.{float_room}
use Rattle.fields.proofs.put_float.Goals as goal

pub returns : goal.returns
returns c = rw c.to_bits.ensures at (there float_room c.put_hex.ensures c.requires)
