-- `route_clearance_text::put_where` meets its contract: its pieces, one after the other. Assumes nothing.
use native.Mathlib.Omega.{arith}
use Rattle.text.proofs.Written.{there, wrote-then}
use Rattle.route_clearance_text.proofs.Lines.{where-is}
use Rattle.route_clearance_text.proofs.put_where.Goals as goal

pub returns : goal.returns
returns c = rw where-is (wrote-then (omega arith) (there 2 c.put.ensures (omega arith)) c.put_pair.ensures)
