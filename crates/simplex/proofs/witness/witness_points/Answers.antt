-- `witness::witness_points` meets its contract, by its tests and what its callees ensure. Assumes nothing.
use borrow.Author.Tests.{eq-eqb, ne_eqb}
use Rattle.model.specs.Distance.{witness_points}
use Rattle.simplex.proofs.witness.witness_points.Goals as goal

pub returns-then-count-eq1 : goal.returns-then-count-eq1
unfolding witness_points
returns-then-count-eq1 c = simp (eq-eqb _ _ c.if-count-eq1.true)

pub returns-then-count-eq2 : goal.returns-then-count-eq2
unfolding witness_points
returns-then-count-eq2 c = let t = c.before.before.before in
    let p = t.before in
    simp (
      ne_eqb _ _ p.if-count-eq1.false,
      eq-eqb _ _ t.if-count-eq2.true,
      c.add-b.ensures,
      c.scale-then-count-eq2-2.ensures,
      c.scale-then-count-eq2.ensures,
      p.add-a.ensures,
      p.scale-2.ensures,
      p.scale.ensures,
    )

pub returns : goal.returns
unfolding witness_points
returns c = let t = c.before.before.before in
    let p = t.before in
    simp (
      ne_eqb _ _ p.if-count-eq1.false,
      ne_eqb _ _ t.if-count-eq2.false,
      c.add-p.ensures,
      c.scale-3.ensures,
      p.add-a.ensures,
      p.scale-2.ensures,
      p.scale.ensures,
    )
