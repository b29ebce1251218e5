-- Written by tests/written/wide.py from simplex, in f64.
-- `solvers::off_edge` meets its contract, by what its callees ensure. Assumes nothing.
use Rattle.simplex64.proofs.solvers.off_edge.Goals as goal

pub returns : goal.returns
returns c = simp (c.perp_dot-s.ensures, c.add.ensures, c.sub-e.ensures)
