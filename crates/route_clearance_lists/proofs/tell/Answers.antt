-- `route_clearance_lists::tell` meets its contract, case by case. Assumes nothing.
use mathlib.Core.Path.{refl, subst}
use Prim.Native.Nat.{◌≤◌}
use Rattle.route_clearance_legs.specs.declared.RouteCleared.{RouteCleared}
use Rattle.route_clearance_legs.specs.Promise.{pieces_told}
use borrow.Author.Rules.{rules}
use Rattle.route_clearance_lists.proofs.tell.Goals as goal

abbrev Few : RouteCleared → Type 0
Few x = pieces_told x ≤ 4194304

pub put-requires : goal.put-requires
put-requires c = let p = c.requires in
    (p.0, p.1, subst Few c.in-Clear.is p.2)

pub put-requires-in-Touch : goal.put-requires-in-Touch
put-requires-in-Touch c = let p = c.requires in
    (p.0, p.1, subst Few c.in-Touch.is p.2)

pub put-requires-in-Open : goal.put-requires-in-Open
put-requires-in-Open c = let p = c.requires in
    (p.0, p.1, subst Few c.in-Open.is p.2)

pub put_place-requires : goal.put_place-requires
put_place-requires c = let p = c.requires in
    (p.1, subst Few c.in-Refused.is p.2)

pub returns-in-Clear : goal.returns-in-Clear
returns-in-Clear c = simp c.in-Clear.is c.put.ensures

pub returns-in-Touch : goal.returns-in-Touch
returns-in-Touch c = simp c.in-Touch.is
    (rw (c.fraction_at.ensures, c.fraction_at-in-Touch.ensures) at c.put-in-Touch.ensures)

pub returns-in-Open : goal.returns-in-Open
returns-in-Open c = simp c.in-Open.is (rw c.fraction_at-in-Open.ensures at c.put-in-Open.ensures)

pub returns-in-Refused : goal.returns-in-Refused
returns-in-Refused c = let told = c.put_place.ensures in
    simp c.in-Refused.is (told.0, refl, told.1)
