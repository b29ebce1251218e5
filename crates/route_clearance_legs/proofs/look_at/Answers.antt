-- `route_clearance_legs::look_at` meets its contract: the outline lies inside the flat list. Assumes nothing.
use native.Mathlib.Omega.{arith}
use lib.ListN.{length}
use Rattle.route_legs.proofs.Starts.{outline-inside}
use Rattle.route_clearance_legs.proofs.Walks.{looked-past}
use borrow.Author.Rules.{rules}
use Rattle.route_clearance_legs.proofs.look_at.Goals as goal

pub overflow_add-end : goal.overflow_add-end
overflow_add-end c = let a = c.args in
    let p = c.requires in
    let k = c.wide-k in
    let inside = outline-inside a.lengths.now k.result (length a.lengths.now) (omega (arith, k.ensures, p.i_bound.1)) in
    omega (arith, inside, c.start_of-from.ensures.0, c.wide.ensures, p.lengths_value)

pub slice_bounds-look_past-end : goal.slice_bounds-look_past-end
slice_bounds-look_past-end c = let a = c.args in
    let p = c.requires in
    let k = c.wide-k in
    let inside = outline-inside a.lengths.now k.result (length a.lengths.now) (omega (arith, k.ensures, p.i_bound.1)) in
    omega (arith, inside, c.start_of-from.ensures.0, c.wide.ensures, p.lengths_value)

pub returns : goal.returns
returns c = let a = c.args in
    looked-past a.cart.now a.waypoints.now a.stills.now a.lengths.now a.slop a.i _ _ _ _
    c.wide-k.ensures
    c.start_of-from.ensures.0 c.wide.ensures c.look_past.ensures
