-- `text::copied::hex_digits` meets its contract: the digits that are left, before those that stand at the end, are all of them. Assumes nothing.
use Rattle.std.proofs.Common.{◌≡◌, suc, ◌+◌, ◌-◌, ◌<◌, length, ◌∙◌, arith, length-set}
use Rattle.model.specs.Text.{hex_by}
use Rattle.text.proofs.Digits.{hex-step}
use Rattle.text.proofs.copied.hex_digits.Goals as goal

pub loop-i-preserved : goal.loop-i-preserved
loop-i-preserved c =
    let l = c.loop-i in
    let left : 8 - (l.i + 1) ≡ 7 - l.i = omega arith in
    let here : 8 - l.i ≡ suc (7 - l.i) = omega (arith, c.loop-i-test.true) in
    let inside : 7 - l.i < length l.digits = omega arith in
    (rw length-set l.invariant.0, rw left (hex-step l.digits (7 - l.i) l.rest _ inside c.capital_digit.ensures ∙ rw here at l.invariant.1))

pub returns : goal.returns
unfolding hex_by
returns c =
    let done : c.loop-i.i ≡ 8 = omega (arith, c.loop-i-test.false, c.loop-i.auto.i-end) in
    rw done at c.loop-i.invariant.1
