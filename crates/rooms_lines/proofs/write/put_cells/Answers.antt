-- `rooms_lines::write::put_cells` meets its contract: its pieces, one after the other. Assumes nothing.
use native.Mathlib.Omega.{arith}
use Rattle.text.proofs.Written.{there, wrote-then}
use Rattle.rooms_lines.proofs.Pieces.{cells_is}
use Rattle.rooms_lines.proofs.write.put_cells.Goals as goal

pub returns : goal.returns
returns c =
    let room = wrote-then (omega arith) (there 2 c.put.ensures (omega arith)) c.put_room.ensures in
    let cells = wrote-then (omega arith) room (there 64 (rw c.requires.1 at c.put-2.ensures) (omega arith)) in
    rw cells_is (wrote-then (omega arith) cells (there 1 c.put-3.ensures (omega arith)))
