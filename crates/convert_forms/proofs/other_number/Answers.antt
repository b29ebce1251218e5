-- `convert_forms::other_number` meets its contract, by its two cases. Assumes nothing.
use borrow.Author.Tests.{eq-eqb, ne_eqb}
use Rattle.convert_forms.proofs.other_number.Goals as goal

pub returns-then-form-eq0 : goal.returns-then-form-eq0
returns-then-form-eq0 c = simp (eq-eqb _ _ c.if-form-eq0.true)

pub returns-else-form-eq0 : goal.returns-else-form-eq0
returns-else-form-eq0 c = simp (ne_eqb _ _ c.if-form-eq0.false)
