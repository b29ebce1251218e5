-- Written by tests/written/wide.py from outline, in f64.
-- `support_index` meets its contract: the first of the pair. Assumes nothing.
use Rattle.outline64.proofs.support_index.Goals as goal

pub returns : goal.returns
returns c = rw c.support_pair-pair.ensures
