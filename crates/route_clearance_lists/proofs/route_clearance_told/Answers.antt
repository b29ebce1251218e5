-- `route_clearance_lists::route_clearance_told` meets its contract: the lists have their lengths, and the answer is told. Assumes nothing.
use Rattle.route_clearance_legs.proofs.First.{pieces-few}
use Rattle.route_clearance_lists.proofs.Laws.{both_long, reported, misfit}
use borrow.Author.Rules.{rules}
use Rattle.route_clearance_lists.proofs.route_clearance_told.Goals as goal

pub tell-requires : goal.tell-requires
tell-requires c = let a = c.args in
    let sizes = both_long a.out.now a.place.now c.if-out-place.true in (
      sizes.0,
      sizes.1,
      pieces-few a.cart.now a.waypoints.now a.stills.now a.lengths.now a.slop c.route_clearance-answer.result c.route_clearance-answer.ensures,
    )

pub returns-then-out-place : goal.returns-then-out-place
returns-then-out-place c = let a = c.args in
    reported a.out.now a.place.now a.cart.now a.waypoints.now a.stills.now a.lengths.now a.slop c.route_clearance-answer.result _ _ _
    c.if-out-place.true c.route_clearance-answer.ensures c.tell.ensures

pub returns-else-out-place : goal.returns-else-out-place
returns-else-out-place c = let a = c.args in
    misfit a.out.now a.place.now a.cart.now a.waypoints.now a.stills.now a.lengths.now a.slop c.if-out-place.false
