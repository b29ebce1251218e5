-- Written by tests/written/wide.py from sheet_lines, in f64.
-- `sheet_lines::answer::one_worked` meets its contract, case by case. Assumes nothing.
use Rattle.sheet_lines64.proofs.answer.one_worked.Goals as goal

pub returns-in-Overlapped : goal.returns-in-Overlapped
returns-in-Overlapped c = simp (c.one_contact.ensures, c.in-Overlapped.is)

pub returns-in-Hit : goal.returns-in-Hit
returns-in-Hit c = simp (c.one_contact-in-Hit.ensures, c.in-Hit.is)

pub returns-in-Separated : goal.returns-in-Separated
returns-in-Separated c = simp (c.one_clear.ensures, c.in-Separated.is)

pub returns-in-Failed : goal.returns-in-Failed
returns-in-Failed c = simp (c.one_undecided.ensures, c.in-Failed.is)
