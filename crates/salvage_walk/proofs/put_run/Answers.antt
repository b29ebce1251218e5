-- `salvage_walk::put_run` meets its contract: two numbers, or nothing. Assumes nothing.
use Rattle.text.proofs.Pasted.{put-nothing}
use Rattle.salvage_walk.proofs.Laws.{no_run, a-run, two-numbers}
use Rattle.salvage_walk.proofs.put_run.Goals as goal

pub returns-then-walk-eq0 : goal.returns-then-walk-eq0
returns-then-walk-eq0 c = rw (← no_run c.args.walk c.if-walk-eq0.true) (put-nothing _ _)

pub returns : goal.returns
returns c = rw (← a-run c.args.walk c.if-walk-eq0.false)
    (two-numbers _ 32 _ 10 c.requires.0 c.put_number-end.ensures c.put_number.ensures)
