-- Written by tests/written/wide.py from sheet_lines, in f64.
-- `sheet_lines::write::put_answer` meets its contract, case by case. Assumes nothing.
use native.Mathlib.Omega.{arith}
use Rattle.text.proofs.Written.{wrote-most}
use Rattle.sheet_lines64.proofs.Pieces.{refused-is}
use Rattle.sheet_lines64.proofs.write.put_answer.Goals as goal

pub returns-in-Ok : goal.returns-in-Ok
returns-in-Ok c = rw c.in-Ok.is c.put_worked.ensures

pub returns-in-Err : goal.returns-in-Err
returns-in-Err c = rw (c.in-Err.is, refused-is) (wrote-most (omega arith) c.put_three.ensures)
