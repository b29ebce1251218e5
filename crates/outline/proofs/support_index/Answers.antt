-- `support_index` meets its contract: the first of the pair. Assumes nothing.
use Rattle.outline.proofs.support_index.Goals as goal

pub returns : goal.returns
returns c = rw c.support_pair-pair.ensures
