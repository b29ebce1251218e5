-- Written by tests/written/wide.py from sheet_lines, in f64.
-- `sheet_lines::answer::counted` meets its contract, case by case. Assumes nothing.
use Rattle.sheet_lines64.proofs.answer.counted.Goals as goal

pub returns-in-Ok : goal.returns-in-Ok
returns-in-Ok c = simp (c.one_worked.ensures, c.in-Ok.is)

pub returns-in-Err : goal.returns-in-Err
returns-in-Err c = simp (c.one_refused.ensures, c.in-Err.is)
