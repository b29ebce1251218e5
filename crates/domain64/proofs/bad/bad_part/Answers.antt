-- Written by tests/written/wide.py from domain, in f64.
-- `bad::bad_part` meets its contract: within the limit on either side is within it in size. Assumes nothing.
use Rattle.domain64.proofs.Laws.{part-within}
use Rattle.domain64.proofs.bad.bad_part.Goals as goal

pub returns : goal.returns
returns c = part-within _
