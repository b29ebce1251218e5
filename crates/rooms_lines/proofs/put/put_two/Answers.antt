-- `rooms_lines::put::put_two` meets its contract: its two numbers, one after the other. Assumes nothing.
use native.Mathlib.Omega.{arith}
use Rattle.text.proofs.Written.{there, wrote-then}
use Rattle.rooms_lines.proofs.Pieces.{two_is}
use Rattle.rooms_lines.proofs.put.put_two.Goals as goal

pub returns : goal.returns
returns c = rw two_is (wrote-then (omega arith) (there 21 c.put_number.ensures (omega arith)) (there 21 c.put_number-2.ensures (omega arith)))
