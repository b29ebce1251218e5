-- `clearance_lines::write::put_open` meets its contract: its pieces, one after the other. Assumes nothing.
use native.Mathlib.Omega.{arith}
use Rattle.text.proofs.Written.{there, wrote-then, wrote-most}
use Rattle.clearance_lines.proofs.Pieces.{open_is}
use Rattle.clearance_lines.proofs.write.put_open.Goals as goal

pub returns : goal.returns
returns c =
    let one = wrote-then (omega arith) (there 7 c.put.ensures (omega arith)) c.put_place.ensures in
    rw open_is (wrote-most (omega arith) (wrote-then (omega arith) one (there 21 c.put_number.ensures (omega arith))))
