-- `sheet_lines::part::write_rest` meets its contract: nothing where nothing is left, else the line of refusal 9. Assumes nothing.
use mathlib.Core.Path.{refl}
use mathlib.Core.List.{append-nil}
use borrow.Author.Tests.{eq-eqb, ne_eqb}
use Rattle.model.specs.Sheet.{lines_from, totals_from}
use Rattle.text.proofs.Written.{wrote-nothing}
use Rattle.sheet_lines.proofs.part.write_rest.Goals as goal

pub returns-then-rest-eq0 : goal.returns-then-rest-eq0
unfolding lines_from totals_from
returns-then-rest-eq0 c = simp (eq-eqb _ _ c.if-rest-eq0.true) (record { lines = wrote-nothing _ _; totals_value = refl })

pub returns : goal.returns
unfolding lines_from totals_from
returns c = simp (ne_eqb _ _ c.if-rest-eq0.false, append-nil) (record { lines = c.write_answer.ensures.line; totals_value = c.write_answer.ensures.totals_value })
