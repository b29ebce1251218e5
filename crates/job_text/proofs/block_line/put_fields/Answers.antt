-- `job_text::block_line::put_fields` meets its contract: the words so far are written, one after the other. Assumes nothing.
use Rattle.std.proofs.Common.{◌≡◌, arith}
use Rattle.text.proofs.Written.{wrote-nothing, wrote-most}
use Rattle.job_text.specs.Job.{words_of}
use Rattle.job_text.specs.Pieces.{spaced}
use Rattle.job_text.proofs.Lines.{fields-more}
use Rattle.job_text.proofs.block_line.put_fields.Goals as goal

pub loop-j-init : goal.loop-j-init
unfolding words_of spaced
loop-j-init c = wrote-nothing _ _

pub loop-j-preserved : goal.loop-j-preserved
loop-j-preserved c = wrote-most (omega arith) (fields-more _ _ (omega (arith, c.requires.0)) c.loop-j.invariant c.put_field.ensures)

pub returns : goal.returns
returns c = let l = c.loop-j in
    let done : l.j ≡ c.args.n = omega arith in
    rw done at l.invariant
