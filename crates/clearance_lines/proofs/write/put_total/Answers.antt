-- `clearance_lines::write::put_total` meets its contract: its pieces, one after the other. Assumes nothing.
use native.Mathlib.Omega.{arith}
use Rattle.text.proofs.Written.{there, wrote-then, wrote-most}
use Rattle.clearance_lines.proofs.Pieces.{total-is}
use Rattle.clearance_lines.proofs.write.put_total.Goals as goal

pub returns : goal.returns
returns c =
    let one = wrote-then (omega arith) (there 6 c.put.ensures (omega arith)) c.put_two.ensures in
    rw total-is (wrote-most (omega arith) (wrote-then (omega arith) (wrote-then (omega arith) one c.put_two-2.ensures) (there 21 c.put_number.ensures (omega arith))))
