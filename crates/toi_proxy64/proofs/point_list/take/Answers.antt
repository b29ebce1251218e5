-- Written by tests/written/wide.py from toi_proxy, in f64.
-- `take` meets its contract: one law for each of its ends. Assumes nothing.
use borrow.Author.Tests.{eq-eqb, ne_eqb}
use Rattle.toi_proxy64.proofs.PointLaws.{first_taken, better-taken, equal-taken, worse-taken}
use Rattle.toi_proxy64.proofs.point_list.take.Goals as goal

pub returns-then-i-eq0 : goal.returns-then-i-eq0
returns-then-i-eq0 c = first_taken _ _ _ _ _ _ c.bad_vector.ensures (eq-eqb _ _ c.if-i-eq0.true)

pub returns-then-value-s : goal.returns-then-value-s
returns-then-value-s c =
    better-taken _ _ _ _ _ _ c.bad_vector.ensures (ne_eqb _ _ c.if-i-eq0.false) c.if-value-s.true

pub returns-then-value-s-2 : goal.returns-then-value-s-2
returns-then-value-s-2 c =
    equal-taken _ _ _ _ _ _ c.bad_vector.ensures (ne_eqb _ _ c.if-i-eq0.false) c.if-value-s.false c.if-value-s-2.true

pub returns-else-value-s-2 : goal.returns-else-value-s-2
returns-else-value-s-2 c =
    worse-taken _ _ _ _ _ _ c.bad_vector.ensures (ne_eqb _ _ c.if-i-eq0.false) c.if-value-s.false c.if-value-s-2.false
