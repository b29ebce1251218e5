-- `support_points` meets its contract: `take` takes the points, and `answer` ends. Assumes nothing.
use mathlib.Core.Path.{refl, sym, ◌∙◌}
use lib.Ieee.{binary32}
use Rattle.toi_proxy.proofs.PointLaws.{goes_on, finishes}
use Rattle.toi_proxy.proofs.point_list.support_points.Goals as goal

pub loop-i-init : goal.loop-i-init
loop-i-init c = refl

pub loop-i-preserved : goal.loop-i-preserved
loop-i-preserved c =
    let l = c.loop-i in
    rw c.take-s.ensures (sym (goes_on binary32 c.args.direction c.args.points.now l.i l.s c.loop-i-test.true) ∙ l.invariant)

pub returns : goal.returns
returns c =
    let l = c.loop-i in
    c.answer.ensures ∙ finishes binary32 c.args.direction c.args.points.now l.i l.s c.loop-i-test.false l.invariant
