-- `report_counts::rows::hit_row` meets its contract, test by test. Assumes nothing.
use Rattle.report_counts.specs.Rows.{hit_row}
use Rattle.report_counts.proofs.rows.hit_row.Goals as goal

pub returns-then-t : goal.returns-then-t
unfolding hit_row
returns-then-t c = simp c.if-t.true

pub returns-then-t-2 : goal.returns-then-t-2
unfolding hit_row
returns-then-t-2 c = simp (c.if-t-2.true, c.if-t.false)

pub returns-then-t-3 : goal.returns-then-t-3
unfolding hit_row
returns-then-t-3 c = simp (c.if-t-3.true, c.if-t-2.false, c.if-t.false)

pub returns-then-t-4 : goal.returns-then-t-4
unfolding hit_row
returns-then-t-4 c = simp (c.if-t-4.true, c.if-t-3.false, c.if-t-2.false, c.if-t.false)

pub returns-then-t-5 : goal.returns-then-t-5
unfolding hit_row
returns-then-t-5 c = simp (c.if-t-5.true, c.if-t-4.false, c.if-t-3.false, c.if-t-2.false, c.if-t.false)

pub returns-then-t-6 : goal.returns-then-t-6
unfolding hit_row
returns-then-t-6 c = simp (c.if-t-6.true, c.if-t-5.false, c.if-t-4.false, c.if-t-3.false, c.if-t-2.false, c.if-t.false)

pub returns-then-t-7 : goal.returns-then-t-7
unfolding hit_row
returns-then-t-7 c = simp (c.if-t-7.true, c.if-t-6.false, c.if-t-5.false, c.if-t-4.false, c.if-t-3.false, c.if-t-2.false, c.if-t.false)

pub returns-then-t-8 : goal.returns-then-t-8
unfolding hit_row
returns-then-t-8 c = simp (c.if-t-8.true, c.if-t-7.false, c.if-t-6.false, c.if-t-5.false, c.if-t-4.false, c.if-t-3.false, c.if-t-2.false, c.if-t.false)

pub returns-then-t-9 : goal.returns-then-t-9
unfolding hit_row
returns-then-t-9 c = simp (c.if-t-9.true, c.if-t-8.false, c.if-t-7.false, c.if-t-6.false, c.if-t-5.false, c.if-t-4.false, c.if-t-3.false, c.if-t-2.false, c.if-t.false)

pub returns-then-t-10 : goal.returns-then-t-10
unfolding hit_row
returns-then-t-10 c = simp (
  c.if-t-10.true,
  c.if-t-9.false,
  c.if-t-8.false,
  c.if-t-7.false,
  c.if-t-6.false,
  c.if-t-5.false,
  c.if-t-4.false,
  c.if-t-3.false,
  c.if-t-2.false,
  c.if-t.false,
)

pub returns-then-t-11 : goal.returns-then-t-11
unfolding hit_row
returns-then-t-11 c = simp (
  c.if-t-11.true,
  c.if-t-10.false,
  c.if-t-9.false,
  c.if-t-8.false,
  c.if-t-7.false,
  c.if-t-6.false,
  c.if-t-5.false,
  c.if-t-4.false,
  c.if-t-3.false,
  c.if-t-2.false,
  c.if-t.false,
)

pub returns : goal.returns
unfolding hit_row
returns c = simp (
  c.if-t-11.false,
  c.if-t-10.false,
  c.if-t-9.false,
  c.if-t-8.false,
  c.if-t-7.false,
  c.if-t-6.false,
  c.if-t-5.false,
  c.if-t-4.false,
  c.if-t-3.false,
  c.if-t-2.false,
  c.if-t.false,
)
