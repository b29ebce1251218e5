-- Written by tests/written/wide.py from sweep_toi, in f64.
-- `sweep_toi::hit` meets its contract, by its contact. Assumes nothing.
use Rattle.sweep_toi64.proofs.sweep_toi.hit.Goals as goal

pub returns : goal.returns
returns c = rw c.contact_at.ensures
