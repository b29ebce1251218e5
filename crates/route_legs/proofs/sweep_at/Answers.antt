-- `route_legs::sweep_at` meets its contract: the outline lies inside the flat list. Assumes nothing.
use native.Mathlib.Omega.{arith}
use lib.ListN.{length}
use lib.Ieee.{binary32}
use Rattle.route_legs.proofs.Starts.{outline-inside}
use Rattle.route_legs.proofs.Walks.{swept-past}
use Rattle.route_legs.proofs.sweep_at.Goals as goal

pub overflow_add-end : goal.overflow_add-end
overflow_add-end c = let a = c.args in
    let p = c.requires in
    let k = c.wide-k in
    let inside = outline-inside a.lists.lengths.now k.result (length a.lists.lengths.now) (omega (arith, k.ensures, p.i_bound.1)) in
    omega (arith, inside, c.start_of-from.ensures.0, c.wide.ensures, p.lengths_value)

pub slice_bounds-sweep_past-end : goal.slice_bounds-sweep_past-end
slice_bounds-sweep_past-end c = let a = c.args in
    let p = c.requires in
    let k = c.wide-k in
    let inside = outline-inside a.lists.lengths.now k.result (length a.lists.lengths.now) (omega (arith, k.ensures, p.i_bound.1)) in
    omega (arith, inside, c.start_of-from.ensures.0, c.wide.ensures, p.lengths_value)

pub returns : goal.returns
returns c = let a = c.args in
    swept-past binary32 a.lists.cart.now a.lists.waypoints.now a.lists.stills.now a.lists.lengths.now a.lists.slop a.i _ _ _ _
    c.wide-k.ensures
    c.start_of-from.ensures.0 c.wide.ensures c.sweep_past.ensures
