-- `gaps_lines::part::write_rest` meets its contract: nothing where nothing is left, else the line of refusal 9. Assumes nothing.
use mathlib.Core.Path.{refl}
use borrow.Author.Tests.{eq-eqb, ne_eqb}
use Rattle.text.proofs.Written.{wrote-nothing}
use Rattle.gaps_lines.proofs.part.write_rest.Goals as goal

pub returns-then-rest-eq0 : goal.returns-then-rest-eq0
returns-then-rest-eq0 c = simp (eq-eqb _ _ c.if-rest-eq0.true) (record { line = wrote-nothing _ _; tally_value = refl })

pub returns : goal.returns
returns c = simp (ne_eqb _ _ c.if-rest-eq0.false) (record { line = c.write_refused.ensures.line; tally_value = c.write_refused.ensures.tally_value })
