-- Written by tests/written/wide.py from sweep_toi, in f64.
-- `bracket::tried` meets its contract, by its test. Assumes nothing.
use borrow.Author.Tests.{eq-eqb, ne_eqb}
use Rattle.model64.specs.SweepToi.{tried}
use Rattle.sweep_toi64.proofs.bracket.tried.Goals as goal

pub returns-then-x-eq1 : goal.returns-then-x-eq1
unfolding tried
returns-then-x-eq1 c = simp (eq-eqb _ _ c.if-x-eq1.true)

pub returns-else-x-eq1 : goal.returns-else-x-eq1
unfolding tried
returns-else-x-eq1 c = simp (ne_eqb _ _ c.if-x-eq1.false)
