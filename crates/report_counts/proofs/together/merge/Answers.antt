-- `report_counts::together::merge` meets its contract: its parts are those of the definition. Assumes nothing.
use Rattle.report_counts.specs.Report.{together}
use Rattle.report_counts.proofs.together.merge.Goals as goal

pub returns : goal.returns
unfolding together
returns c = simp (
  c.wrapping_add_u64.ensures.value,
  c.larger_each-largest.ensures,
  c.moved_each.ensures,
  c.sums-counts.ensures,
)
