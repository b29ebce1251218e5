-- Case by case. Assumes nothing.
use mathlib.Core.Path.{subst}
use Rattle.clearance_lists.specs.Entry.{Few}
use borrow.Author.Rules.{rules}
use Rattle.clearance_lists.proofs.tell.Goals as goal

pub put-requires : goal.put-requires
put-requires c = let p = c.requires in
    (p.0, p.1, subst Few c.in-Clear.is p.2)

pub put-requires-in-Touch : goal.put-requires-in-Touch
put-requires-in-Touch c = let p = c.requires in
    (p.0, p.1, subst Few c.in-Touch.is p.2)

pub put-requires-in-Open : goal.put-requires-in-Open
put-requires-in-Open c = let p = c.requires in
    (p.0, p.1, subst Few c.in-Open.is p.2)

pub returns-in-Clear : goal.returns-in-Clear
returns-in-Clear c = simp c.in-Clear.is c.put.ensures

pub returns-in-Touch : goal.returns-in-Touch
returns-in-Touch c = simp c.in-Touch.is
    (rw (c.fraction_at.ensures, c.fraction_at-in-Touch.ensures) at c.put-in-Touch.ensures)

pub returns-in-Open : goal.returns-in-Open
returns-in-Open c = simp c.in-Open.is (rw c.fraction_at-in-Open.ensures at c.put-in-Open.ensures)
