-- `job_text::job::has_line` meets its contract, case by case. Assumes nothing.
use Rattle.std.proofs.Common.{sym, ap, ◌∙◌}
use Rattle.model.specs.Blocks.{is_good}
use Rattle.job_text.proofs.Passed.{what-passed}
use Rattle.job_text.proofs.job.has_line.Goals as goal

pub prints_as-requires : goal.prints_as-requires
prints_as-requires c = let p = what-passed _ (ap is_good (sym c.check_plain.ensures ∙ c.in-Ok.is)) in
    (p.count-a, p.count-b)

pub returns-in-Ok : goal.returns-in-Ok
returns-in-Ok c = simp (← c.check_plain.ensures, c.in-Ok.is) c.prints_as.ensures

pub returns-in-Err : goal.returns-in-Err
returns-in-Err c = simp (← c.check_plain.ensures, c.in-Err.is)
