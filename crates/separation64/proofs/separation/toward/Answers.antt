-- Written by tests/written/wide.py from separation, in f64.
-- `separation::toward` meets its contract, by its test and what its callees ensure. Assumes nothing.
use Rattle.separation64.proofs.separation.toward.Goals as goal

pub returns-then-side : goal.returns-then-side
returns-then-side c =
    simp (
      c.neg.ensures,
      rw (
        c.dot-side.ensures,
        c.rotate_vec.ensures,
        c.sub.ensures,
        c.transform_point.ensures,
      ) at c.if-side.true,
    )

pub returns-else-side : goal.returns-else-side
returns-else-side c =
    simp (rw (
      c.dot-side.ensures,
      c.rotate_vec.ensures,
      c.sub.ensures,
      c.transform_point.ensures,
    ) at c.if-side.false)
