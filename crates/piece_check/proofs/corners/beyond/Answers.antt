-- `corners::beyond` meets its contract. Assumes nothing.
use native.Mathlib.Omega.{arith}
use borrow.Author.Tests.{ltb-true}
use Rattle.piece_check.proofs.corners.beyond.Goals as goal

pub returns : goal.returns
returns c = λ h i j l m.
    let s = c.before.before in
    omega (arith, ltb-true, s.most_along-most.ensures.all i l, s.least_along-least.ensures.all j m)
