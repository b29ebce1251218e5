-- `rooms_lines::part::counted` meets its contract, by whether the block was refused. Assumes nothing.
use Rattle.rooms_lines.proofs.part.counted.Goals as goal

pub returns-in-Ok : goal.returns-in-Ok
returns-in-Ok c = rw c.in-Ok.is

pub returns-in-Err : goal.returns-in-Err
returns-in-Err c = rw c.in-Err.is
