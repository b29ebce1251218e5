-- `sweep::shifted` meets its contract, by what its callees ensure. Assumes nothing.
use Rattle.model.specs.Sweep.{shifted}
use Rattle.separation.proofs.sweep.shifted.Goals as goal

pub returns : goal.returns
unfolding shifted
returns c = simp (c.sub-c2.ensures, c.sub-c1.ensures)
