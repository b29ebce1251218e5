-- `sweep_toi::refused` meets its contract, by its corners. Assumes nothing.
use Rattle.sweep_toi.proofs.sweep_toi.refused.Goals as goal

pub returns : goal.returns
returns c = rw c.no_search-corners.ensures
