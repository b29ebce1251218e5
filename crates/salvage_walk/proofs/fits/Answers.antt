-- `salvage_walk::fits` meets its contract: its callee is the last test. Assumes nothing.
use Rattle.salvage_walk.proofs.fits.Goals as goal

pub returns : goal.returns
returns c = rw c.countable.ensures
