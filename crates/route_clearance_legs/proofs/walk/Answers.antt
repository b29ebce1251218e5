-- `route_clearance_legs::walk` meets its contract: the pairs so far are clear, and those left fall. Assumes nothing.
use Rattle.route_legs.proofs.Walks.{leg-few, outline-few}
use Rattle.route_clearance_legs.proofs.Walks.{at_first, few-pieces, looked-in-order, ended-in-order, ends-here, goes_on, all-passed}
use Prim.Native.Nat.{◌≤◌, ◌-◌, ◌*◌}
use mathlib.Core.Bool.{not}
use mathlib.Core.Path.{ap}
use native.Mathlib.Omega.{arith}
use borrow.Author.Rules.{rules}
use Rattle.route_clearance_legs.specs.Looks.{Passed}
use Rattle.route_clearance_legs.proofs.walk.Goals as goal

pub loop-k-init : goal.loop-k-init
loop-k-init c = let a = c.args in
    (search rules, search rules, at_first a.cart.now a.waypoints.now a.stills.now a.lengths.now a.slop)

pub look_at-answer-requires : goal.look_at-answer-requires
look_at-answer-requires c = let k = c.loop-k.k in
    let a = c.args in
    let p = c.requires in
    let inside = outline-few k a.outlines c.outline_of-outline.ensures p.outlines_value.1 in record {
      i_bound = (
        leg-few k a.outlines 1024 c.leg_of-leg.ensures (omega (arith, c.loop-k-test.true, p.outlines_value.3)),
        omega (arith, inside, p.outlines_value.0),
        omega (arith, p.outlines_value.0, p.outlines_value.2),
      );
      lengths_value = p.lengths_value;
    }

pub overflow_add-pieces : goal.overflow_add-pieces
overflow_add-pieces c = let l = c.loop-k in
    let a = c.args in
    let few = few-pieces a.cart.now a.waypoints.now a.stills.now a.lengths.now a.slop _ _ _ c.look_at-answer.ensures in
    omega (
      arith,
      few,
      c.pieces_of-pieces.ensures,
      l.invariant.1,
      c.loop-k-test.true,
      c.requires.outlines_value.3,
    )

pub end_at-requires : goal.end_at-requires
end_at-requires c = let k = c.loop-k.k in
    let a = c.args in
    let p = c.requires in
    let leg = leg-few k a.outlines 1024 c.leg_of-leg.ensures
    (omega (arith, c.loop-k-test.true, p.outlines_value.3)) in
    (leg, omega (arith, outline-few k a.outlines c.outline_of-outline.ensures p.outlines_value.1, p.outlines_value.2))

pub returns-then-not-is_clear : goal.returns-then-not-is_clear
returns-then-not-is_clear c = let l = c.loop-k in
    let a = c.args in
    let all = c.requires.outlines_value.0 in
    let leg = c.leg_of-leg.ensures in
    let past = c.outline_of-outline.ensures in
    let looked = looked-in-order a.cart.now a.waypoints.now a.stills.now a.lengths.now a.slop l.k a.outlines _ all leg past
    c.look_at-answer.ensures in
    let at-end = ended-in-order a.cart.now a.waypoints.now a.stills.now a.lengths.now a.slop l.k
    a.outlines _ _ all leg past c.end_at.ensures in
    ends-here a.cart.now a.waypoints.now a.stills.now a.lengths.now a.slop l.k l.pieces _ _ l.invariant.2 looked
    c.pieces_of-pieces.ensures a.pairs
    c.loop-k-test.true _
    c.is_clear.ensures (ap not c.if-not-is_clear.true) _ at-end _ c.ended_by.ensures

pub loop-k-preserved : goal.loop-k-preserved
loop-k-preserved c = let l = c.loop-k in
    let a = c.args in
    let pieces = c.pieces_of-pieces in
    let answer = c.look_at-answer.ensures in
    let looked = looked-in-order a.cart.now a.waypoints.now a.stills.now a.lengths.now a.slop l.k a.outlines _
    c.requires.outlines_value.0
    c.leg_of-leg.ensures c.outline_of-outline.ensures answer in (
      search rules,
      omega (
        arith,
        few-pieces a.cart.now a.waypoints.now a.stills.now a.lengths.now a.slop _ _ _ answer,
        pieces.ensures,
        l.invariant.1,
      ),
      goes_on a.cart.now a.waypoints.now a.stills.now a.lengths.now a.slop l.k l.pieces _ _ l.invariant.2 looked
          pieces.ensures _ c.is_clear.ensures (ap not c.if-not-is_clear.false),
    )

pub returns : goal.returns
returns c = let l = c.loop-k in
    let a = c.args in
    all-passed a.cart.now a.waypoints.now a.stills.now a.lengths.now a.slop a.pairs l.k l.pieces l.invariant.0
    c.loop-k-test.false l.invariant.2
