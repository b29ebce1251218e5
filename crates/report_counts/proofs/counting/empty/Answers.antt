-- `report_counts::counting::empty` meets its contract: all counts are 0. Assumes nothing.
use Rattle.report_counts.specs.Rows.{rows_in, times_in}
use Rattle.report_counts.specs.Largest.{largest_in}
use Rattle.report_counts.specs.Report.{report, every_answer, tally_from}
use Rattle.report_counts.proofs.counting.empty.Goals as goal

pub returns : goal.returns
unfolding report every_answer rows_in times_in tally_from largest_in
returns c = simp c.nowhere.ensures
