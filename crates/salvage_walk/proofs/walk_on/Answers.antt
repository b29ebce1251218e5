-- `salvage_walk::walk_on` meets its contract: the steps so far are the first of all, and what is left falls. Assumes nothing.
use mathlib.Core.Path.{refl}
use Prim.Native.Nat.{◌+◌, ◌≤◌}
use native.Mathlib.Omega.{arith}
use borrow.Author.Rules.{rules}
use lib.ListN.{length, drop, length-drop}
use Rattle.salvage_walk.proofs.Steps.{goes}
use Rattle.salvage_walk.proofs.Laws.{fits-room, begun, room_for, one_more, finished}
use Rattle.salvage_walk.proofs.walk_on.Goals as goal

pub loop-reached-init : goal.loop-reached-init
loop-reached-init c = (refl, refl, begun c.args.bytes.now c.args.walk _ _)

pub overflow_sub-bytes : goal.overflow_sub-bytes
overflow_sub-bytes c = c.loop-reached.invariant.2.inside

pub step-reached-requires : goal.step-reached-requires
step-reached-requires c = let l = c.loop-reached in
    let b = c.args.bytes.now in
    let more : l.reached.at + 512 ≤ length b = omega (arith, c.loop-reached-test.true, l.invariant.2.inside) in
    let room = fits-room (length b) (length c.args.file.now) (length c.args.text.now) c.args.walk c.requires in
    let fine = room_for b c.args.walk _ _ l.reached.at l.reached.walk _ _ _ _ l.invariant.2 more _ _ room in
    record { block_size_in_bounds = (more, omega (arith, fine.for-file, l.invariant.0), omega (arith, fine.for-text, l.invariant.1)); block_size_bound = fine.places }

pub loop-reached-smaller : goal.loop-reached-smaller
loop-reached-smaller c = let l = c.loop-reached in
    let taken = c.loop-reached-test.true in
    let b = c.args.bytes.now in
    let some : 1 ≤ length (drop l.reached.at b) = omega (arith, taken, length-drop l.reached.at b) in
    omega (arith, taken, c.step-reached.ensures.at_value.0, (goes (drop l.reached.at b) some).some)

pub loop-reached-preserved : goal.loop-reached-preserved
loop-reached-preserved c = let l = c.loop-reached in
    let w = c.step-reached.ensures in
    let b = c.args.bytes.now in
    let more : l.reached.at + 512 ≤ length b = omega (arith, c.loop-reached-test.true, l.invariant.2.inside) in (
      search rules,
      search rules,
      one_more b c.args.walk _ _ l.reached.at l.reached.walk _ _ _ _ l.invariant.2 more _ _ _ _ _ _ w.at_value.0 w.at_value.1 w.put.0 w.put.1,
    )

pub shape_of-file : goal.shape_of-file
shape_of-file c = c.loop-reached.invariant.0

pub shape_of-text : goal.shape_of-text
shape_of-text c = c.loop-reached.invariant.1

pub returns : goal.returns
returns c =
    let l = c.loop-reached in
    let h = finished c.args.bytes.now c.args.walk _ _ l.reached.at l.reached.walk _ _ _ _ l.invariant.2 (omega (arith, c.loop-reached-test.false, l.invariant.2.inside)) in
    record { at_value = h.0; put = h.1.0; at_in_bounds = h.1.1 }
