-- `job_text::block_line::put_head` meets its contract: three numbers, one after the other. Assumes nothing.
use Rattle.std.proofs.Common.{arith}
use Rattle.text.proofs.Written.{there, wrote-then}
use Rattle.job_text.specs.Pieces.{head_of}
use Rattle.job_text.proofs.block_line.put_head.Goals as goal

pub returns : goal.returns
unfolding head_of
returns c =
    let numbers = wrote-then (omega arith) (wrote-then (omega arith) (there 21 c.put_number.ensures (omega arith)) (there 21 c.put_number-2.ensures (omega arith))) (there 21 c.put_number-3.ensures (omega arith)) in
    rw (
      c.word.ensures,
      c.byte.ensures,
      c.byte-2.ensures,
    ) at numbers
