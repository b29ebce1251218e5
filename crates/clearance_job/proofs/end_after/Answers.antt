-- The end itself, or the next place after the first. Assumes nothing.
use Rattle.clearance_job.proofs.Laws.{ended_at}
use Rattle.clearance_job.proofs.end_after.Goals as goal

pub returns : goal.returns
returns c = ended_at c.args.first c.fraction_up.result c.max.result c.args.end c.fraction_up.ensures c.max.ensures
