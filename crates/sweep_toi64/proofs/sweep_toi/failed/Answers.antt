-- Written by tests/written/wide.py from sweep_toi, in f64.
-- `sweep_toi::failed` meets its contract, by its contact. Assumes nothing.
use Rattle.sweep_toi64.proofs.sweep_toi.failed.Goals as goal

pub returns : goal.returns
returns c = rw c.no_contact.ensures
