-- `unpack_blocks::put_block` meets its contract, case by case. Assumes nothing.
use mathlib.Core.Path.{sym, ap, ◌∙◌}
use Rattle.text.proofs.Pasted.{put-nothing}
use Rattle.text.proofs.Lengths.{roomy}
use Rattle.model.specs.Blocks.{is_good}
use Rattle.unpack_blocks.specs.Unpack.{unpacked, refused}
use Rattle.job_text.proofs.Passed.{what-passed}
use Rattle.unpack_blocks.proofs.Blocks.{line-there}
use Rattle.unpack_blocks.proofs.put_block.Goals as goal

pub returns-in-Ok : goal.returns-in-Ok
unfolding unpacked refused
returns-in-Ok c = let good = sym c.check_plain.ensures ∙ c.in-Ok.is in
    let p = what-passed c.args.block.now (ap is_good good) in
    let line = line-there c.args.block.now _ _ p.count-a p.count-b c.requires.0 in
    simp (← c.check_plain.ensures, c.in-Ok.is) (rw line at c.put_job.ensures, put-nothing _ _)

pub returns-in-Err : goal.returns-in-Err
unfolding unpacked refused
returns-in-Err c = let told = roomy 42 c.put_refusal.ensures c.requires.1 in
    simp (← c.check_plain.ensures, c.in-Err.is) (put-nothing _ _, told)
