-- `sweep_toi::separated` meets its contract, by its contact. Assumes nothing.
use Rattle.sweep_toi.proofs.sweep_toi.separated.Goals as goal

pub returns : goal.returns
returns c = rw c.no_contact.ensures
