-- `sweep_toi::hit` meets its contract, by its contact. Assumes nothing.
use Rattle.sweep_toi.proofs.sweep_toi.hit.Goals as goal

pub returns : goal.returns
returns c = rw c.contact_at.ensures
