-- Written by tests/written/wide.py from domain, in f64.
-- `check_outline` meets its contract, by its tests and what its callees ensure. Assumes nothing.
use mathlib.Core.Path.{sym, ◌∙◌}
use Rattle.model.specs.Domain.{checked}
use Rattle.domain64.proofs.check_outline.Goals as goal

pub returns-then-bad_outline : goal.returns-then-bad_outline
unfolding checked
returns-then-bad_outline c = simp (sym c.bad_outline.ensures ∙ c.if-bad_outline.true)

pub returns-then-bad_parts : goal.returns-then-bad_parts
unfolding checked
returns-then-bad_parts c = let t = c.before.before in
    simp (sym t.bad_outline.ensures ∙ t.if-bad_outline.false, sym c.bad_parts.ensures ∙ c.if-bad_parts.true)

pub returns : goal.returns
unfolding checked
returns c = let t = c.before.before in
    simp (sym t.bad_outline.ensures ∙ t.if-bad_outline.false, sym c.bad_parts.ensures ∙ c.if-bad_parts.false)
