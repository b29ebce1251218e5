-- Written by tests/written/wide.py from fields, in f64.
-- `fields::put_contact` meets its contract: nothing where there is no room, else the five floats. Assumes nothing.
use mathlib.Core.Path.{sym, ◌∙◌}
use borrow.Author.Tests.{ltb-false}
use Rattle.text.proofs.Written.{wrote-nothing}
use Rattle.fields64.proofs.put_contact.Goals as goal

pub returns-then-lacks : goal.returns-then-lacks
returns-then-lacks c = simp (← c.lacks.ensures, c.if-lacks.true) (wrote-nothing _ _)

pub put_floats-requires : goal.put_floats-requires
put_floats-requires c = ltb-false _ _ (sym c.lacks.ensures ∙ c.if-lacks.false)

pub returns : goal.returns
returns c = simp (← c.lacks.ensures, c.if-lacks.false) c.put_floats.ensures
