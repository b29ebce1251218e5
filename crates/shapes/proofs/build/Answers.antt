-- `build` meets its contract, ending by ending. Assumes nothing.
use Rattle.std.proofs.Common.{◌≡◌, length, arith}
use Rattle.shapes.proofs.Endings.{no_room, stored, stored_more}
use Rattle.shapes.proofs.build.Goals as goal

pub returns-then-out-corners : goal.returns-then-out-corners
returns-then-out-corners c = let a = c.args in no_room a.corners.now a.out.now (omega (arith, c.if-out-corners.true))

pub loop-i-preserved : goal.loop-i-preserved
loop-i-preserved c = let l = c.loop-i in
    let a = c.args in
    rw l.invariant (stored_more a.corners.now a.out.now l.i _ c.loop-i-test.true (omega (arith, c.if-out-corners.false)))

pub returns : goal.returns
returns c = let l = c.loop-i in
    let a = c.args in
    let all : l.i ≡ length a.corners.now = omega (arith, c.loop-i-test.false, l.auto.i-end) in
    rw (l.invariant, all) (stored a.corners.now a.out.now (omega (arith, c.if-out-corners.false)))
