-- `check_sweeps` meets its contract, by its tests and what its callees ensure. Assumes nothing.
use Rattle.model.specs.Domain.{checked}
use Rattle.domain.proofs.check_sweeps.Goals as goal

pub returns-then-rotations : goal.returns-then-rotations
unfolding checked
returns-then-rotations c = let r = c.before.before.before in
    let rotations = rw (
      r.bad_rotation-4.ensures,
      r.bad_rotation-3.ensures,
      r.bad_rotation-2.ensures,
      r.bad_rotation.ensures,
    ) at c.if-rotations.true in
    simp rotations

pub returns-then-centres : goal.returns-then-centres
unfolding checked
returns-then-centres c = let d = c.before.before in
    let r = d.before.before in
    simp (
      rw (
        r.bad_rotation-4.ensures,
        r.bad_rotation-3.ensures,
        r.bad_rotation-2.ensures,
        r.bad_rotation.ensures,
      ) at c.if-rotations.false,
      rw (d.bad_centres-2.ensures, d.bad_centres.ensures) at c.if-centres.true,
    )

pub returns : goal.returns
unfolding checked
returns c = let d = c.before.before in
    let r = d.before.before in
    simp (
      rw (
        r.bad_rotation-4.ensures,
        r.bad_rotation-3.ensures,
        r.bad_rotation-2.ensures,
        r.bad_rotation.ensures,
      ) at c.if-rotations.false,
      rw (d.bad_centres-2.ensures, d.bad_centres.ensures) at c.if-centres.false,
    )
