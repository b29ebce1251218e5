-- `clearance_lines::part::fits` meets its contract, by what its callee ensures. Assumes nothing.
use Rattle.clearance_lines.proofs.part.fits.Goals as goal

pub returns : goal.returns
returns c = simp c.countable.ensures
