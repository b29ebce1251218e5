-- `report_lines::put_most` meets its contract, case by case. Assumes nothing.
use Rattle.report_lines.proofs.put_most.Goals as goal

pub returns-in-None : goal.returns-in-None
returns-in-None c = rw c.in-None.is c.put_place.ensures

pub returns-in-Some : goal.returns-in-Some
returns-in-Some c = rw c.in-Some.is c.put_place-in-Some.ensures
