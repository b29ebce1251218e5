-- `clearance_lines::write::put_clear` meets its contract: its pieces, one after the other. Assumes nothing.
use native.Mathlib.Omega.{arith}
use Rattle.text.proofs.Written.{there, wrote-then, wrote-most}
use Rattle.clearance_lines.proofs.Pieces.{clear-is}
use Rattle.clearance_lines.proofs.write.put_clear.Goals as goal

pub returns : goal.returns
returns c = rw clear-is (wrote-most (omega arith) (wrote-then (omega arith) (there 8 c.put.ensures (omega arith)) (there 21 c.put_number.ensures (omega arith))))
