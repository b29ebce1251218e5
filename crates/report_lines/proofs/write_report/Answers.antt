-- `report_lines::write_report` meets its contract: nothing where there is no room, else its parts, one after the other. Assumes nothing.
use native.Mathlib.Omega.{arith}
use borrow.Author.Tests.{lt-ltb, le-ltb}
use borrow.Author.Rules.{rules}
use Rattle.text.proofs.Pasted.{put-nothing}
use Rattle.text.proofs.Written.{there, wrote-then, left}
use Rattle.report_lines.specs.Text.{report_text}
use Rattle.report_lines.proofs.write_report.Goals as goal

pub returns-then-out-lt-LONGEST_REPORT : goal.returns-then-out-lt-LONGEST_REPORT
returns-then-out-lt-LONGEST_REPORT c = simp (lt-ltb _ _ c.if-out-lt-LONGEST_REPORT.true) (put-nothing _ _)

pub returns : goal.returns
unfolding report_text
returns c =
    let batches = wrote-then (omega arith) (there 8 c.put.ensures (omega arith)) (there 21 c.put_number.ensures (omega arith)) in
    let lines = wrote-then (omega arith) (wrote-then (omega arith) batches c.put_rows.ensures) c.put_largest.ensures in
    rw (le-ltb _ _ c.if-out-lt-LONGEST_REPORT.false) (left lines (search rules))
