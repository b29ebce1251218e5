-- `job_text::block_line::put_fields` meets its contract: the words so far are written, one after the other. Assumes nothing.
use Rattle.std.proofs.Common.{◌*◌}
use Rattle.text.specs.Written.{Wrote}
use Rattle.job_text.specs.Job.{words_of}
use Rattle.job_text.specs.Pieces.{spaced}
use Rattle.job_text.proofs.block_line.put_fields.Given as goal

abbrev pub invariant-loop-j : goal.invariant-loop-j
invariant-loop-j l = Wrote (9 * l.j) l.initial.draft (spaced (words_of l.block l.j)) l.draft
