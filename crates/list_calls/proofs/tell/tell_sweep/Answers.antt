-- `list_calls::tell::tell_sweep` meets its contract, case by case. Assumes nothing.
use Rattle.list_calls.proofs.tell.tell_sweep.Goals as goal

pub returns-in-Ok : goal.returns-in-Ok
returns-in-Ok c = simp c.in-Ok.is c.put_verdict.ensures
