-- `job_text::block_line::put_line` meets its contract: the numbers, the words but one, and the last. Assumes nothing.
use Rattle.std.proofs.Common.{◌+◌, ◌*◌, arith}
use Rattle.text.proofs.Written.{wrote-then, wrote-most}
use Rattle.job_text.proofs.Lines.{job-line-is}
use Rattle.job_text.proofs.block_line.put_line.Goals as goal

pub put_fields-requires : goal.put_fields-requires
put_fields-requires c = (
  omega (arith, c.requires.0, c.requires.1, c.requires.2, c.byte-2.ensures, c.byte.ensures),
  c.requires.1,
  omega (arith, c.requires.1, c.requires.2, c.byte-2.ensures, c.byte.ensures),
)

pub put_field-requires : goal.put_field-requires
put_field-requires c = (
  omega (arith, c.requires.0, c.requires.1, c.requires.2, c.byte-2.ensures, c.byte.ensures),
  c.requires.1,
  omega (arith, c.requires.1, c.requires.2, c.byte-2.ensures, c.byte.ensures),
)

pub returns : goal.returns
returns c = let last = 23 + 2 * c.byte.result + 2 * c.byte-2.result in
    rw (job-line-is c.args.block.now last (omega (arith, c.byte-2.ensures, c.byte.ensures)))
    (wrote-most (omega (arith, c.requires.1, c.requires.2, c.byte-2.ensures, c.byte.ensures))
    (wrote-then (omega (arith, c.requires.0)) (wrote-then (omega (arith, c.requires.0)) c.put_head.ensures c.put_fields.ensures) c.put_field.ensures))
