-- `job_text::job::job_block` meets its contract, by what its callees ensure. Assumes nothing.
use Rattle.std.proofs.Common.{ap, ◌∙◌}
use Rattle.job_text.specs.Job.{block_from, block_for, is_job}
use Rattle.job_text.proofs.job.job_block.Goals as goal

pub returns : goal.returns
unfolding is_job block_for
returns c = let built = c.build_block.ensures ∙ ap block_from c.read_numbers.ensures in
    (rw built at c.has_line-job.ensures, built)
