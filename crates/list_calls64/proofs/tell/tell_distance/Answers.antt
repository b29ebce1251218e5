-- Written by tests/written/wide.py from list_calls, in f64.
-- `list_calls::tell::tell_distance` meets its contract, case by case. Assumes nothing.
use Rattle.list_calls64.proofs.tell.tell_distance.Goals as goal

pub put_measured-requires : goal.put_measured-requires
put_measured-requires c = let p = c.requires in
    (p.0, p.1, simp c.in-Ok.is at p.2)

pub returns-in-Ok : goal.returns-in-Ok
returns-in-Ok c = simp c.in-Ok.is c.put_measured.ensures
