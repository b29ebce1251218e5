-- `gaps_lines::job::put_refused` meets its contract: its two pieces, one after the other. Assumes nothing.
use native.Mathlib.Omega.{arith}
use Rattle.text.proofs.Written.{there, wrote-then, wrote-most}
use Rattle.gaps_lines.proofs.Pieces.{refused-is}
use Rattle.gaps_lines.proofs.job.put_refused.Goals as goal

pub returns : goal.returns
returns c = rw refused-is (wrote-most (omega arith) (wrote-then (omega arith) c.put_two.ensures (there 21 c.put_number.ensures (omega arith))))
