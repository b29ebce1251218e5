-- `check_bar` meets its contract, by its test and what `bad_vector` ensures. Assumes nothing.
use Rattle.model.specs.Domain.{checked}
use Rattle.shapes.proofs.check_bar.Goals as goal

pub returns-then-bad_vector : goal.returns-then-bad_vector
unfolding checked
returns-then-bad_vector c = simp (rw (c.bad_vector-2.ensures, c.bad_vector.ensures) at c.if-bad_vector.true)

pub returns-else-bad_vector : goal.returns-else-bad_vector
unfolding checked
returns-else-bad_vector c = simp (rw (c.bad_vector-2.ensures, c.bad_vector.ensures) at c.if-bad_vector.false)
