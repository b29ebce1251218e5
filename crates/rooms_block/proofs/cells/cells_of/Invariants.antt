-- The letters so far hold. Assumes nothing.
use Rattle.rooms_block.specs.Rooms.{CellsTo}
use Rattle.rooms_block.proofs.cells.cells_of.Given as goal

abbrev pub invariant-loop-k : goal.invariant-loop-k
invariant-loop-k l = CellsTo l.planned.points_a.now l.planned.points_b.now l.planned.numbers.now l.end l.cell-items l.k
