-- `report_counts::counting::opened` meets its contract: one batch, and all other counts are 0. Assumes nothing.
use Rattle.report_counts.specs.Rows.{rows_in, times_in}
use Rattle.report_counts.specs.Largest.{larger, largest_from, largest_in}
use Rattle.report_counts.specs.Report.{report, every_answer, tally_from}
use Rattle.report_counts.proofs.counting.opened.Goals as goal

pub returns : goal.returns
unfolding report every_answer rows_in times_in tally_from larger largest_from largest_in
returns c = simp c.nowhere.ensures
