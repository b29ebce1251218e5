-- `clearance_lines::write::put_answer` meets its contract: the block and its job, then the answer. Assumes nothing.
use native.Mathlib.Omega.{arith}
use Rattle.text.proofs.Written.{wrote-then, wrote-most}
use Rattle.clearance_lines.proofs.Pieces.{line-is}
use Rattle.clearance_lines.proofs.write.put_answer.Goals as goal

pub returns : goal.returns
returns c = rw line-is (wrote-most (omega arith) (wrote-then (omega arith) c.put_two.ensures c.put_told.ensures))
