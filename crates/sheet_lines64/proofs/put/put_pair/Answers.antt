-- Written by tests/written/wide.py from sheet_lines, in f64.
-- `sheet_lines::put::put_pair` meets its contract: its two pieces, one after the other. Assumes nothing.
use native.Mathlib.Omega.{arith}
use Rattle.text.proofs.Written.{wrote-then}
use Rattle.sheet_lines64.proofs.Pieces.{pair_is}
use Rattle.sheet_lines64.proofs.put.put_pair.Goals as goal

pub returns : goal.returns
returns c = rw pair_is (wrote-then (omega arith) c.put_corner.ensures c.put_corner-2.ensures)
