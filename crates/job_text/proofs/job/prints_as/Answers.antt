-- `job_text::job::prints_as` meets its contract: what is written on the bytes is the line. Assumes nothing.
use Rattle.std.proofs.Common.{sym, arith, rules, length-take-le}
use Rattle.text.proofs.Written.{left}
use Rattle.job_text.proofs.Compared.{put-start, same-is}
use Rattle.job_text.proofs.job.prints_as.Goals as goal

pub slice_bounds-same-end : goal.slice_bounds-same-end
slice_bounds-same-end c = sym (length-take-le _ _ (omega (arith, c.put_line.ensures.most, c.put_line.ensures.size)))

pub returns : goal.returns
returns c = same-is c.same.result c.same.ensures.0 c.same.ensures.1 (put-start (left c.put_line.ensures (search rules)))
