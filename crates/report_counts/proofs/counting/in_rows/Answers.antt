-- `report_counts::counting::in_rows` meets its contract: row after row. Assumes nothing.
use Rattle.report_counts.specs.Report.{bumped_all}
use Rattle.report_counts.proofs.counting.in_rows.Goals as goal

pub returns : goal.returns
unfolding bumped_all
returns c = simp (c.bumped.ensures, c.detail_row.ensures, c.bumped-groups.ensures, c.group_row.ensures, c.bumped-blocks.ensures)
