-- `job_text::block_line::check_plain` meets its contract, by its tests and what its callees ensure. Assumes nothing.
use Rattle.std.proofs.Common.{eq-eqb, ne_eqb}
use Rattle.job_text.specs.Job.{plain_block}
use Rattle.job_text.proofs.block_line.check_plain.Goals as goal

pub returns-then-byte-eq0 : goal.returns-then-byte-eq0
unfolding plain_block
returns-then-byte-eq0 c = simp (c.check_block.ensures, ← c.byte.ensures, eq-eqb _ _ c.if-byte-eq0.true)

pub returns-then-sum_of_words-eq4294967295 : goal.returns-then-sum_of_words-eq4294967295
unfolding plain_block
returns-then-sum_of_words-eq4294967295 c = simp (
  c.word-job.ensures,
  ← c.byte.ensures,
  ne_eqb _ _ c.if-byte-eq0.false,
  ← c.sum_of_words.ensures,
  eq-eqb _ _ c.if-sum_of_words-eq4294967295.true,
)

pub returns : goal.returns
unfolding plain_block
returns c = simp (
  ← c.byte.ensures,
  ne_eqb _ _ c.if-byte-eq0.false,
  ← c.sum_of_words.ensures,
  ne_eqb _ _ c.if-sum_of_words-eq4294967295.false,
)
