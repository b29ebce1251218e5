-- `report_lines::put_rows` meets its contract: the lines of the rows so far are written. Assumes nothing.
use Prim.Native.Nat.{◌*◌}
use Rattle.text.specs.Written.{Wrote}
use Rattle.report_lines.proofs.Labels.{first_rows}
use Rattle.report_lines.proofs.put_rows.Given as goal

abbrev pub invariant-loop-row : goal.invariant-loop-row
invariant-loop-row l = Wrote (32 * l.row) l.initial.draft (first_rows l.fn.counts l.row) l.draft
