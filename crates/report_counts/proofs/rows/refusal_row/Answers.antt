-- `report_counts::rows::refusal_row` meets its contract, test by test. Assumes nothing.
use Rattle.std.proofs.Common.{le-ltb, lt-ltb, eq-eqb, ne_eqb}
use Rattle.report_counts.specs.Rows.{refusal_row}
use Rattle.report_counts.proofs.rows.refusal_row.Goals as goal

pub returns-then-number-eq13 : goal.returns-then-number-eq13
unfolding refusal_row
returns-then-number-eq13 c = simp (eq-eqb _ _ c.if-number-eq13.true)

pub returns-then-number-lt3 : goal.returns-then-number-lt3
unfolding refusal_row
returns-then-number-lt3 c = simp (ne_eqb _ _ c.if-number-eq13.false, lt-ltb _ _ c.if-number-lt3.true)

pub returns-then-number-lt12 : goal.returns-then-number-lt12
unfolding refusal_row
returns-then-number-lt12 c = simp (ne_eqb _ _ c.if-number-eq13.false, le-ltb _ _ c.if-number-lt3.false, lt-ltb _ _ c.if-number-lt12.true)

pub returns : goal.returns
unfolding refusal_row
returns c = simp (ne_eqb _ _ c.if-number-eq13.false, le-ltb _ _ c.if-number-lt3.false, le-ltb _ _ c.if-number-lt12.false)
