-- `route_text::put_pair` meets its contract: two numbers, one after the other. Assumes nothing.
use native.Mathlib.Omega.{arith}
use Rattle.text.proofs.Written.{there, wrote-then}
use Rattle.route_text.proofs.Lines.{two_is}
use Rattle.route_text.proofs.put_pair.Goals as goal

pub returns : goal.returns
returns c = rw two_is (wrote-then (omega arith) (there 21 c.put_number.ensures (omega arith)) (there 21 c.put_number-2.ensures (omega arith)))
