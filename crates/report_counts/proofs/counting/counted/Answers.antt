-- `report_counts::counting::counted` meets its contract: its parts are those of the definition. Assumes nothing.
use Rattle.report_counts.specs.Report.{counted}
use Rattle.report_counts.proofs.counting.counted.Goals as goal

pub returns : goal.returns
unfolding counted
returns c = simp (c.larger_each-most.ensures, c.seen.ensures, c.in_rows-counts.ensures, c.wrapping_add_u64-block.ensures.value)
