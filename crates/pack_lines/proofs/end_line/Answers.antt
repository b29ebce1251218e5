-- `pack_lines::end_line` meets its contract, case by case. Assumes nothing.
use mathlib.Core.Path.{sym, ◌∙◌}
use native.Mathlib.Omega.{arith}
use borrow.Author.Tests.{eq-eqb, ne_eqb}
use lib.ListN.{length}
use Rattle.text.proofs.Pasted.{put-nothing}
use Rattle.text.proofs.Lengths.{roomy}
use Rattle.job_text.specs.Job.{block_for}
use Rattle.job_text.proofs.BlockBuilt.{length-block-for}
use Rattle.pack_lines.proofs.end_line.Goals as goal

pub returns-then-x-ne10 : goal.returns-then-x-ne10
returns-then-x-ne10 c = let on = ne_eqb _ _ c.if-x-ne10.true in
    record { written = rw on (put-nothing _ _); complaints = rw on (put-nothing _ _); held = rw on; ended = rw on }

pub returns-then-built : goal.returns-then-built
returns-then-built c = let l = c.args.line.now in
    let over = eq-eqb _ _ c.if-x-ne10.false in
    let job = sym c.job_block-built.ensures.0 ∙ c.if-built.true in
    let bytes = rw c.job_block-built.ensures.1 at c.put_text-end.ensures in
    let put = roomy (length (block_for l)) bytes (omega (arith, c.requires.0, length-block-for l)) in
    record { written = rw (over, job) put; complaints = rw (over, job) (put-nothing _ _); held = rw over; ended = rw over }

pub returns : goal.returns
returns c = let over = eq-eqb _ _ c.if-x-ne10.false in
    let no-job = sym c.job_block-built.ensures.0 ∙ c.if-built.false in
    let told = roomy 42 c.put_refusal-end.ensures c.requires.1 in
    record { written = rw (over, no-job) (put-nothing _ _); complaints = rw (over, no-job) told; held = rw over; ended = rw over }
