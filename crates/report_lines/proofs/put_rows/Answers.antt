-- `report_lines::put_rows` meets its contract: the lines of the rows so far are written. Assumes nothing.
use Prim.Native.Nat.{◌<◌}
use native.Mathlib.Omega.{arith}
use Rattle.text.proofs.Written.{wrote-nothing, wrote-then, wrote-most}
use Rattle.report_lines.proofs.Labels.{no_rows, rows_more, all-rows}
use borrow.Author.Rules.{rules}
use Rattle.report_lines.proofs.put_rows.Goals as goal

pub loop-row-init : goal.loop-row-init
loop-row-init c = rw (no_rows c.args.counts) (wrote-nothing _ _)

pub loop-row-preserved : goal.loop-row-preserved
loop-row-preserved c = let l = c.loop-row in
    let more : l.row < 28 = omega arith in
    rw (rows_more c.args.counts l.row (search rules) more) (wrote-most (omega arith) (wrote-then (omega arith) l.invariant c.put_row.ensures))

pub returns : goal.returns
returns c = let l = c.loop-row in
    rw (← all-rows c.args.counts l.row (search rules) (omega arith)) (wrote-most (omega arith) l.invariant)
