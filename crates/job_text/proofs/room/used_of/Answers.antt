-- `job_text::room::used_of` meets its contract, by its test and what its callee ensures. Assumes nothing.
use Rattle.std.proofs.Common.{le-ltb, lt-ltb}
use Rattle.job_text.proofs.room.used_of.Goals as goal

pub returns-then-before-lt-COUNT_LIMIT : goal.returns-then-before-lt-COUNT_LIMIT
returns-then-before-lt-COUNT_LIMIT c = simp (c.min-then-before-lt-COUNT_LIMIT.ensures, c.min.ensures, lt-ltb _ _ c.if-before-lt-COUNT_LIMIT.true)

pub returns : goal.returns
returns c = simp (le-ltb _ _ c.if-before-lt-COUNT_LIMIT.false)
