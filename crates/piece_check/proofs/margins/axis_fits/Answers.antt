-- `margins::axis_fits` meets its contract. Assumes nothing.
use native.Mathlib.Omega.{arith}
use borrow.Author.Tests.{leb-true}
use Rattle.piece_check.proofs.Axis.{axis-law}
use Rattle.piece_check.proofs.margins.axis_fits.Goals as goal

pub returns : goal.returns
returns c = λ h. record {
  small = c.both_within.ensures.small c.if-not-both_within.false;
  short = axis-law c.args.n c.inner-d.result c.inner-d.ensures.is (omega (arith, leb-true));
}
