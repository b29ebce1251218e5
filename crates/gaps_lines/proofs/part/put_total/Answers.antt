-- `gaps_lines::part::put_total` meets its contract: its two pieces, one after the other. Assumes nothing.
use native.Mathlib.Omega.{arith}
use Rattle.text.proofs.Written.{there, wrote-then, wrote-most}
use Rattle.gaps_lines.proofs.Pieces.{total-is}
use Rattle.gaps_lines.proofs.part.put_total.Goals as goal

pub returns : goal.returns
returns c = rw total-is (wrote-most (omega arith) (wrote-then (omega arith) (there 6 c.put.ensures (omega arith)) c.put_two.ensures))
