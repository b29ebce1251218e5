-- `report_counts::most::larger` meets its contract, case by case. Assumes nothing.
use Rattle.std.proofs.Common.{le-ltb, lt-ltb}
use Rattle.report_counts.specs.Largest.{larger}
use Rattle.report_counts.proofs.most.larger.Goals as goal

pub returns-in-None : goal.returns-in-None
unfolding larger
returns-in-None c = simp c.in-None.is

pub returns-in-None-b : goal.returns-in-None-b
unfolding larger
returns-in-None-b c = simp (c.in-None-b.is, c.in-Some.is)

pub returns-then-s-t : goal.returns-then-s-t
unfolding larger
returns-then-s-t c = simp (c.in-Some-b.is, c.in-Some.is, lt-ltb _ _ c.if-s-t.true)

pub returns-else-s-t : goal.returns-else-s-t
unfolding larger
returns-else-s-t c = simp (c.in-Some-b.is, c.in-Some.is, le-ltb _ _ c.if-s-t.false)
