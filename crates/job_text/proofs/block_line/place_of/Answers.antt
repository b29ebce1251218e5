-- `job_text::block_line::place_of` meets its contract, by its tests. Assumes nothing.
use Rattle.std.proofs.Common.{le-ltb, lt-ltb}
use Rattle.job_text.proofs.block_line.place_of.Goals as goal

pub returns-then-j-lt24 : goal.returns-then-j-lt24
returns-then-j-lt24 c = simp (lt-ltb _ _ c.if-j-lt24.true)

pub returns-then-j-a : goal.returns-then-j-a
returns-then-j-a c = simp (le-ltb _ _ c.if-j-lt24.false, lt-ltb _ _ c.if-j-a.true)

pub returns : goal.returns
returns c = simp (le-ltb _ _ c.if-j-lt24.false, le-ltb _ _ c.if-j-a.false)
