-- `gaps_lines::job::put_worked` meets its contract: its three pieces, one after the other. Assumes nothing.
use native.Mathlib.Omega.{arith}
use Rattle.text.proofs.Written.{there, wrote-then, wrote-most}
use Rattle.gaps_lines.proofs.Pieces.{worked-is}
use Rattle.gaps_lines.proofs.job.put_worked.Goals as goal

pub returns : goal.returns
returns c =
    let start = wrote-then (omega arith) c.put_two.ensures (there 2 c.put.ensures (omega arith)) in
    rw worked-is (wrote-most (omega arith) (wrote-then (omega arith) start c.put_block.ensures))
