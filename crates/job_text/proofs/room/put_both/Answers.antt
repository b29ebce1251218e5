-- `job_text::room::put_both` meets its contract: two numbers, one after the other. Assumes nothing.
use Rattle.std.proofs.Common.{arith}
use Rattle.text.proofs.Written.{there, wrote-then}
use Rattle.job_text.specs.Room.{refusal}
use Rattle.job_text.proofs.room.put_both.Goals as goal

pub returns : goal.returns
unfolding refusal
returns c = wrote-then (omega arith) (there 21 c.put_number.ensures (omega arith)) (there 21 c.put_number-2.ensures (omega arith))
