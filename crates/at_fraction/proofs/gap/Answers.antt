-- `at_fraction::gap` meets its contract, by what its callees ensure. Assumes nothing.
use Rattle.at_fraction.specs.Moment.{gap}
use Rattle.at_fraction.proofs.gap.Goals as goal

pub returns : goal.returns
unfolding gap
returns c =
    rw (
      c.measure-measured.ensures,
      c.inv_mul.ensures,
      c.transform_at-xf_b.ensures,
      c.shifted-2.ensures,
      c.transform_at-xf_a.ensures,
      c.shifted.ensures,
    )
