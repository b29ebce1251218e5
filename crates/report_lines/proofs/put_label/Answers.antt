-- `report_lines::put_label` meets its contract: there is room for the name. Assumes nothing.
use Rattle.std.proofs.Common.{length, get_or, [], arith}
use Rattle.text.proofs.Written.{there, wrote-most}
use Rattle.report_lines.specs.Text.{labels}
use Rattle.report_lines.proofs.Labels.{length_label}
use Rattle.report_lines.proofs.put_label.Goals as goal

pub returns : goal.returns
returns c = let row = c.args.row in
    wrote-most (length_label row)
    (there (length (get_or labels row [])) (rw c.label.ensures at c.put.ensures) (omega (arith, c.requires.0, length_label row)))
