-- `job_text::room::tell_refusal` meets its contract: nothing where there is no count left, else the refusal where there is room. Assumes nothing.
use Rattle.std.proofs.Common.{le-ltb, lt-ltb}
use Rattle.text.proofs.Pasted.{put-nothing}
use Rattle.job_text.proofs.room.tell_refusal.Goals as goal

pub returns-then-before-ge-COUNT_LIMIT : goal.returns-then-before-ge-COUNT_LIMIT
returns-then-before-ge-COUNT_LIMIT c = simp (le-ltb _ _ c.if-before-ge-COUNT_LIMIT.true) (put-nothing _ _)

pub returns : goal.returns
returns c = rw (lt-ltb _ _ c.if-before-ge-COUNT_LIMIT.false) c.put_refusal.ensures
