-- `job_text::build::point_word` meets its contract, by its test. Assumes nothing.
use Rattle.std.proofs.Common.{le-ltb, lt-ltb}
use Rattle.job_text.proofs.build.point_word.Goals as goal

pub returns-then-p-n : goal.returns-then-p-n
returns-then-p-n c = simp (c.field_at.ensures, lt-ltb _ _ c.if-p-n.true)

pub returns-else-p-n : goal.returns-else-p-n
returns-else-p-n c = simp (le-ltb _ _ c.if-p-n.false)
