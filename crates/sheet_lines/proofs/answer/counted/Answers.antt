-- `sheet_lines::answer::counted` meets its contract, case by case. Assumes nothing.
use Rattle.sheet_lines.proofs.answer.counted.Goals as goal

pub returns-in-Ok : goal.returns-in-Ok
returns-in-Ok c = simp (c.one_worked.ensures, c.in-Ok.is)

pub returns-in-Err : goal.returns-in-Err
returns-in-Err c = simp (c.one_refused.ensures, c.in-Err.is)
