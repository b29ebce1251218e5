-- Both squares are compared as the numbers that they are. Assumes nothing.
use native.Mathlib.Omega.{arith}
use borrow.Author.Tests.{leb-true}
use Rattle.piece_check.proofs.fits.corner_inside.Goals as goal

pub returns : goal.returns
returns c = λ h. omega (arith, leb-true, c.mul-s.ensures.is, c.inner-d.ensures.is)
