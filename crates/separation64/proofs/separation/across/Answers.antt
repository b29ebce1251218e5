-- Written by tests/written/wide.py from separation, in f64.
-- `separation::across` meets its contract, by what its callees ensure. Assumes nothing.
use Rattle.separation64.proofs.separation.across.Goals as goal

pub returns : goal.returns
returns c = simp (c.normalize_or_zero.ensures, c.sub-e.ensures)
