-- `sweep_toi::failed_at` meets its contract, by its contact. Assumes nothing.
use Rattle.sweep_toi.proofs.sweep_toi.failed_at.Goals as goal

pub returns : goal.returns
returns c = rw c.contact_at.ensures
