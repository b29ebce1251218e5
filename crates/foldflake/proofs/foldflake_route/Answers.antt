-- `foldflake::foldflake_route` meets its contract: the lists have their lengths, and the answer is told. Assumes nothing.
use Rattle.foldflake.proofs.Route.{route-lengths, route-told, route-misfit}
use borrow.Author.Rules.{rules}
use Rattle.foldflake.proofs.foldflake_route.Goals as goal

pub tell_route-requires : goal.tell_route-requires
tell_route-requires c = let a = c.args in route-lengths a.cart.now
    a.waypoints.now a.stills.now a.lengths.now a.slop a.out.now a.place.now c.if-out-place.true

pub returns-then-out-place : goal.returns-then-out-place
returns-then-out-place c = let a = c.args in
    route-told a.cart.now a.waypoints.now a.stills.now a.lengths.now a.slop a.out.now a.place.now _ _ _ _
    c.if-out-place.true
    c.route-answer.ensures c.tell_route.ensures

pub returns-else-out-place : goal.returns-else-out-place
returns-else-out-place c = let a = c.args in route-misfit a.cart.now a.waypoints.now a.stills.now
    a.lengths.now a.slop a.out.now a.place.now c.if-out-place.false
