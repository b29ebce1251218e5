-- `job_text::build::word_at` meets its contract, by its tests and what its callees ensure. Assumes nothing.
use Rattle.std.proofs.Common.{le-ltb, lt-ltb}
use Rattle.job_text.specs.Job.{word_at}
use Rattle.job_text.proofs.build.word_at.Goals as goal

pub returns-then-i-lt26 : goal.returns-then-i-lt26
unfolding word_at
returns-then-i-lt26 c = simp (c.head_word.ensures, lt-ltb _ _ c.if-i-lt26.true)

pub returns-then-i-lt58 : goal.returns-then-i-lt58
unfolding word_at
returns-then-i-lt58 c = simp (
  c.point_word.ensures,
  le-ltb _ _ c.if-i-lt26.false,
  lt-ltb _ _ c.if-i-lt58.true,
  c.count_at.ensures.0,
)

pub returns : goal.returns
unfolding word_at
returns c = simp (
  c.point_word-2.ensures,
  le-ltb _ _ c.if-i-lt26.false,
  le-ltb _ _ c.if-i-lt58.false,
  c.count_at-2.ensures.0,
  c.count_at.ensures.0,
)
