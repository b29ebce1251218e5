-- `bad::bad_part` meets its contract: within the limit on either side is within it in size. Assumes nothing.
use Rattle.domain.proofs.Laws.{part-within}
use Rattle.domain.proofs.bad.bad_part.Goals as goal

pub returns : goal.returns
returns c = part-within _
