-- `route_line::place_if` meets its contract, by its tests. Assumes nothing.
use Rattle.route_line.proofs.place_if.Goals as goal

pub returns-then-so : goal.returns-then-so
returns-then-so c = simp c.if-so.true

pub returns-else-so : goal.returns-else-so
returns-else-so c = simp c.if-so.false
