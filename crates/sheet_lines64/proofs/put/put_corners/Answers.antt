-- Written by tests/written/wide.py from sheet_lines, in f64.
-- `sheet_lines::put::put_corners` meets its contract: its two pieces, one after the other. Assumes nothing.
use native.Mathlib.Omega.{arith}
use Rattle.text.proofs.Written.{wrote-then}
use Rattle.sheet_lines64.proofs.Pieces.{corners-are}
use Rattle.sheet_lines64.proofs.put.put_corners.Goals as goal

pub returns : goal.returns
returns c = rw corners-are (wrote-then (omega arith) c.put_pair.ensures c.put_pair-2.ensures)
