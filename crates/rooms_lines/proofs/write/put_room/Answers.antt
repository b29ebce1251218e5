-- `rooms_lines::write::put_room` meets its contract, by whether there is a room. Assumes nothing.
use native.Mathlib.Omega.{arith}
use Rattle.text.proofs.Written.{there, wrote-most}
use Rattle.rooms_lines.proofs.Pieces.{room-is, no-room-is}
use Rattle.rooms_lines.proofs.write.put_room.Goals as goal

pub returns-in-Some : goal.returns-in-Some
returns-in-Some c = rw (c.in-Some.is, room-is _) (rw c.to_bits.ensures at (there 9 c.put_hex.ensures c.requires))

pub returns-in-None : goal.returns-in-None
returns-in-None c = rw (c.in-None.is, no-room-is) (wrote-most (omega arith) (there 2 c.put.ensures (omega arith)))
