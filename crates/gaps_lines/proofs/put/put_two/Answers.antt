-- `gaps_lines::put::put_two` meets its contract: two numbers, one after the other. Assumes nothing.
use native.Mathlib.Omega.{arith}
use Rattle.text.proofs.Written.{there, wrote-then}
use Rattle.gaps_lines.proofs.Pieces.{two_is}
use Rattle.gaps_lines.proofs.put.put_two.Goals as goal

pub returns : goal.returns
returns c = rw two_is (wrote-then (omega arith) (there 21 c.put_number.ensures (omega arith)) (there 21 c.put_number-2.ensures (omega arith)))
