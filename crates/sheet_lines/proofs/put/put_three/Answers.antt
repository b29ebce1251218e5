-- `sheet_lines::put::put_three` meets its contract: three numbers, one after the other. Assumes nothing.
use native.Mathlib.Omega.{arith}
use Rattle.text.proofs.Written.{there, wrote-then}
use Rattle.sheet_lines.proofs.Pieces.{three-is}
use Rattle.sheet_lines.proofs.put.put_three.Goals as goal

pub returns : goal.returns
returns c =
    let two = wrote-then (omega arith) (there 21 c.put_number.ensures (omega arith)) (there 21 c.put_number-2.ensures (omega arith)) in
    rw three-is (wrote-then (omega arith) two (there 21 c.put_number-3.ensures (omega arith)))
