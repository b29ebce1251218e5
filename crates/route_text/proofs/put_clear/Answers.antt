-- `route_text::put_clear` meets its contract: a text and a number. Assumes nothing.
use native.Mathlib.Omega.{arith}
use Rattle.text.proofs.Written.{there, wrote-then, wrote-most}
use Rattle.route_text.proofs.Lines.{clear-is}
use Rattle.route_text.proofs.put_clear.Goals as goal

pub returns : goal.returns
returns c = rw clear-is (wrote-most (omega arith) (wrote-then (omega arith) (there 8 c.put.ensures (omega arith)) (there 21 c.put_number.ensures (omega arith))))
