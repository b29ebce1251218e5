-- `report_counts::most::moved` meets its contract, case by case. Assumes nothing.
use Rattle.report_counts.specs.Largest.{moved}
use Rattle.report_counts.proofs.most.moved.Goals as goal

pub returns-in-None : goal.returns-in-None
unfolding moved
returns-in-None c = simp c.in-None.is

pub returns-in-Some : goal.returns-in-Some
unfolding moved
returns-in-Some c = simp (c.seen_at.ensures, c.wrapping_add_u64.ensures.value, c.in-Some.is)
