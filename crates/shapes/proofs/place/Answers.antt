-- `place` meets its contract: each corner is moved in its place. Assumes nothing.
use Rattle.std.proofs.Common.{◌≡◌, ◌<◌, ◌∙◌, length, arith}
use Rattle.std.specs.Float.{binary32}
use Rattle.std.proofs.lemmas.List.{get_or_default}
use Rattle.std.proofs.lemmas.List.Edits.{map_over_more}
use Rattle.model.specs.Ground.{on_point}
use Rattle.shapes.proofs.Endings.{placed-all}
use Rattle.shapes.proofs.place.Goals as goal

pub loop-corner-preserved : goal.loop-corner-preserved
loop-corner-preserved c =
    let l = c.loop-corner in
    let inside : l.corner-index < length l.corners = omega (arith, c.loop-corner-test.true, l.auto.corners) in
    rw c.transform_point.ensures (
    map_over_more (on_point binary32 c.args.pose) c.args.corners.now l.corners l.corner-index _ c.loop-corner-test.true l.invariant (get_or_default _ _ _ _ inside)
    )

pub returns : goal.returns
returns c =
    let l = c.loop-corner in
    let all : l.corner-index ≡ length c.args.corners.now = omega (arith, c.loop-corner-test.false, l.auto.corner-index-end) in
    (rw all at l.invariant) ∙ placed-all binary32 c.args.pose c.args.corners.now
