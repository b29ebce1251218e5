-- `report_lines::put_row` meets its contract: the name, and then the number. Assumes nothing.
use native.Mathlib.Omega.{arith}
use Rattle.text.proofs.Written.{there, wrote-then}
use Rattle.report_lines.proofs.put_row.Goals as goal

pub returns : goal.returns
returns c = wrote-then (omega arith) c.put_label.ensures (there 21 c.put_number.ensures (omega arith))
