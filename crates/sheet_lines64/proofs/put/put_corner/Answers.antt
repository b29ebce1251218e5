-- Written by tests/written/wide.py from sheet_lines, in f64.
-- `sheet_lines::put::put_corner` meets its contract, by whether there is a corner. Assumes nothing.
use native.Mathlib.Omega.{arith}
use Rattle.text.proofs.Written.{there, wrote-most}
use Rattle.sheet_lines64.proofs.Pieces.{no-corner-is, a-corner-is}
use Rattle.sheet_lines64.proofs.put.put_corner.Goals as goal

pub returns-then-i-eq-NO_CORNER : goal.returns-then-i-eq-NO_CORNER
returns-then-i-eq-NO_CORNER c = rw (no-corner-is _ _ c.if-i-eq-NO_CORNER.true) (wrote-most (omega arith) (there 2 c.put.ensures (omega arith)))

pub returns : goal.returns
returns c = rw (a-corner-is _ _ c.if-i-eq-NO_CORNER.false) (there 21 c.put_number.ensures c.requires)
