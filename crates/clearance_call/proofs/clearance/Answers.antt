-- What is refused is told by its number, all else by the verdict. Assumes nothing.
use mathlib.Core.Path.{◌≡◌, sym, subst}
use mathlib.Core.Bool.{false≢true}
use native.Mathlib.Omega.{arith}
use lib.Dec.{T}
use lib.Ieee.{binary32, fits}
use Rattle.clearance_call.specs.Call.{refusal_of}
use Rattle.clearance_call.proofs.Laws.{told, untold}
use Rattle.clearance_call.proofs.clearance.Goals as goal

pub returns-in-None : goal.returns-in-None
returns-in-None c =
    let f = c.args in
    let passed : refusal_of f.points_a.now f.points_b.now f.numbers.now f.from ≡ 0 = omega (arith, c.refusal_of-number.ensures) in
    let Fits : T (fits binary32 f.from) = subst T (sym c.well_formed.1.1.1.0.1) tt in
    untold f.points_a.now f.points_b.now f.numbers.now f.from passed Fits (c.type_inv.numbers 2) (λ count. false≢true (c.in-None.ensures.1 passed count))

pub returns-in-Some : goal.returns-in-Some
returns-in-Some c =
    let f = c.args in
    let passed : refusal_of f.points_a.now f.points_b.now f.numbers.now f.from ≡ 0 = omega (arith, c.refusal_of-number.ensures) in
    let Fits : T (fits binary32 f.from) = subst T (sym c.well_formed.1.1.1.0.1) tt in
    rw c.handed_on.ensures (told f.points_a.now f.points_b.now f.numbers.now f.from passed Fits (c.type_inv.numbers 2) c.in-Some.answer c.in-Some.ensures.0)
