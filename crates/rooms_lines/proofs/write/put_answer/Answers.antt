-- `rooms_lines::write::put_answer` meets its contract: the block and its job, then the number or the cells. Assumes nothing.
use native.Mathlib.Omega.{arith}
use Rattle.text.proofs.Written.{there, wrote-then, wrote-most}
use Rattle.rooms_lines.proofs.Pieces.{told-line-is, refused-line-is}
use Rattle.rooms_lines.proofs.write.put_answer.Goals as goal

pub put_cells-requires : goal.put_cells-requires
put_cells-requires c = (omega (arith, c.requires.0), rw c.in-Ok.is at c.requires.1)

pub returns-in-Ok : goal.returns-in-Ok
returns-in-Ok c = rw (c.in-Ok.is, told-line-is _ _) (wrote-most (omega arith) (wrote-then (omega arith) c.put_two.ensures c.put_cells.ensures))

pub returns-in-Err : goal.returns-in-Err
returns-in-Err c = rw (c.in-Err.is, refused-line-is _ _) (wrote-most (omega arith) (wrote-then (omega arith) c.put_two-in-Err.ensures (there 21 c.put_number.ensures (omega arith))))
