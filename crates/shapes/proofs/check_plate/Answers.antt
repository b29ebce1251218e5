-- `check_plate` meets its contract, by its test and what `bad_vector` ensures. Assumes nothing.
use Rattle.model.specs.Domain.{checked}
use Rattle.shapes.proofs.check_plate.Goals as goal

pub returns-then-bad_vector-half_x : goal.returns-then-bad_vector-half_x
unfolding checked
returns-then-bad_vector-half_x c = simp (rw c.bad_vector.ensures at c.if-bad_vector-half_x.true)

pub returns-else-bad_vector-half_x : goal.returns-else-bad_vector-half_x
unfolding checked
returns-else-bad_vector-half_x c = simp (rw c.bad_vector.ensures at c.if-bad_vector-half_x.false)
