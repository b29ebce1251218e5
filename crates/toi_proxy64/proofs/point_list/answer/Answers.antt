-- Written by tests/written/wide.py from toi_proxy, in f64.
-- `answer` meets its contract, by its tests. Assumes nothing.
use Rattle.toi_proxy64.proofs.point_list.answer.Goals as goal

pub returns-then-count : goal.returns-then-count
returns-then-count c = simp c.if-count.true

pub returns-then-s : goal.returns-then-s
returns-then-s c = simp (c.if-count.false, c.if-s.true)

pub returns : goal.returns
returns c = simp (c.if-count.false, c.if-s.false)
