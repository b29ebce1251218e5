-- Written by tests/written/wide.py from separation, in f64.
-- `separation::new_separation` meets its contract, by its tests and what its callees ensure. Assumes nothing.
use borrow.Author.Tests.{eq-eqb, ne_eqb}
use Rattle.separation64.proofs.separation.new_separation.Goals as goal

pub returns-then-count-eq1 : goal.returns-then-count-eq1
returns-then-count-eq1 c = simp (eq-eqb _ _ c.if-count-eq1.true, c.of_points.ensures)

pub returns-then-index_a : goal.returns-then-index_a
returns-then-index_a c =
    simp (ne_eqb _ _ c.if-count-eq1.false, eq-eqb _ _ c.if-index_a.true, c.of_face_b.ensures)

pub returns-else-index_a : goal.returns-else-index_a
returns-else-index_a c =
    simp (ne_eqb _ _ c.if-count-eq1.false, ne_eqb _ _ c.if-index_a.false, c.of_face_a.ensures)
