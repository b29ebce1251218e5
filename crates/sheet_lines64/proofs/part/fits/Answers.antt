-- Written by tests/written/wide.py from sheet_lines, in f64.
-- `sheet_lines::part::fits` meets its contract, by what its callee ensures. Assumes nothing.
use Rattle.sheet_lines64.proofs.part.fits.Goals as goal

pub returns : goal.returns
returns c = simp c.countable.ensures
