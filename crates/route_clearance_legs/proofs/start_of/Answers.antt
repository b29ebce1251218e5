-- `route_clearance_legs::start_of` meets its contract: the lengths so far add up, and those left fall. Assumes nothing.
use mathlib.Core.Path.{◌≡◌}
use Prim.Native.Nat.{◌≤◌, ◌-◌, ◌*◌}
use native.Mathlib.Omega.{arith}
use native.Mathlib.Nat.{le_antisymm}
use borrow.Author.Rules.{rules}
use Rattle.route_legs.specs.Route.{start_of}
use Rattle.route_legs.proofs.Starts.{start_none, start-more}
use Rattle.route_clearance_legs.proofs.start_of.Goals as goal

pub loop-i-init : goal.loop-i-init
loop-i-init c = (search rules, start_none _, search rules)

pub overflow_cast-start : goal.overflow_cast-start
overflow_cast-start c = omega (arith, c.shared_slice_known-1.given c.loop-i.i)

pub overflow_add-start : goal.overflow_add-start
overflow_add-start c = omega (arith, c.shared_slice_known-1.given c.loop-i.i)

pub loop-i-preserved : goal.loop-i-preserved
loop-i-preserved c = let l = c.loop-i in (
  search rules,
  rw l.invariant.1 (start-more _ _),
  omega (arith, c.shared_slice_known-1.given l.i),
)

pub returns : goal.returns
returns c = let l = c.loop-i in
    let done = le_antisymm l.invariant.0 c.loop-i-test.false in
    (rw (← done) l.invariant.1, omega (arith, l.invariant.2, done))
