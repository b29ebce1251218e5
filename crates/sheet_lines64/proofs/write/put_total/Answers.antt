-- Written by tests/written/wide.py from sheet_lines, in f64.
-- `sheet_lines::write::put_total` meets its contract: its pieces, one after the other. Assumes nothing.
use native.Mathlib.Omega.{arith}
use Rattle.text.proofs.Written.{there, wrote-then, wrote-most}
use Rattle.sheet_lines64.proofs.Pieces.{total-is}
use Rattle.sheet_lines64.proofs.write.put_total.Goals as goal

pub returns : goal.returns
returns c =
    let one = wrote-then (omega arith) (there 6 c.put.ensures (omega arith)) (there 21 c.put_number.ensures (omega arith)) in
    let two = wrote-then (omega arith) one (there 21 c.put_number-2.ensures (omega arith)) in
    rw total-is (wrote-most (omega arith) (wrote-then (omega arith) two c.put_three.ensures))
