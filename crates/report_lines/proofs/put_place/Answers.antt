-- `report_lines::put_place` meets its contract: three numbers, one after the other. Assumes nothing.
use native.Mathlib.Omega.{arith}
use Rattle.text.proofs.Written.{there, wrote-then}
use Rattle.report_lines.proofs.put_place.Goals as goal

pub returns : goal.returns
returns c = wrote-then (omega arith) (wrote-then (omega arith) (there 21 c.put_number.ensures (omega arith)) (there 21 c.put_number-2.ensures (omega arith))) (there 21 c.put_number-3.ensures (omega arith))
