-- `report_lines::put_largest` meets its contract: three lines, one after the other. Assumes nothing.
use native.Mathlib.Omega.{arith}
use Rattle.text.proofs.Written.{wrote-then}
use Rattle.report_lines.specs.Text.{largest_text}
use Rattle.report_lines.proofs.put_largest.Goals as goal

pub returns : goal.returns
unfolding largest_text
returns c = wrote-then (omega arith) (wrote-then (omega arith) c.put_named.ensures c.put_named-2.ensures) c.put_named-3.ensures
