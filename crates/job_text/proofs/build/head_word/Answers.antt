-- `job_text::build::head_word` meets its contract, by its tests and what its callees ensure. Assumes nothing.
use Rattle.std.proofs.Common.{eq-eqb, ne_eqb}
use Rattle.job_text.proofs.build.head_word.Goals as goal

pub returns-then-i-eq0 : goal.returns-then-i-eq0
returns-then-i-eq0 c = simp (c.field_at.ensures, eq-eqb _ _ c.if-i-eq0.true)

pub returns-then-i-eq1 : goal.returns-then-i-eq1
returns-then-i-eq1 c = simp (
  c.count_at-then-i-eq1.ensures.0,
  c.count_at.ensures.0,
  ne_eqb _ _ c.if-i-eq0.false,
  eq-eqb _ _ c.if-i-eq1.true,
)

pub returns : goal.returns
returns c = simp (c.field_at-2.ensures, ne_eqb _ _ c.if-i-eq0.false, ne_eqb _ _ c.if-i-eq1.false)
