-- Written by tests/written/wide.py from fields, in f64.
-- `fields::put_float` meets its contract: its text is that of the pattern, and there is room. Assumes nothing.
use Rattle.text.proofs.Written.{there}
use Rattle.fields64.specs.Floats.{float_room}
use Rattle.fields64.proofs.put_float.Goals as goal

pub returns : goal.returns
returns c = rw c.to_bits.ensures at (there float_room c.put_wide_hex.ensures c.requires)
