-- `sheet_lines::put::put_pair` meets its contract: its two pieces, one after the other. Assumes nothing.
use native.Mathlib.Omega.{arith}
use Rattle.text.proofs.Written.{wrote-then}
use Rattle.sheet_lines.proofs.Pieces.{pair_is}
use Rattle.sheet_lines.proofs.put.put_pair.Goals as goal

pub returns : goal.returns
returns c = rw pair_is (wrote-then (omega arith) c.put_corner.ensures c.put_corner-2.ensures)
