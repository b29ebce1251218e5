-- `rooms_block::rooms_of` meets its contract, by whether its job is refused. Assumes nothing.
use mathlib.Core.Path.{refl}
use Rattle.rooms_block.proofs.Laws.{roomed}
use Rattle.rooms_block.proofs.rooms_of.Goals as goal

pub returns-then-number-gt0 : goal.returns-then-number-gt0
returns-then-number-gt0 c = (refl, c.refusal_of-number.ensures, c.if-number-gt0.true)

pub returns : goal.returns
returns c = roomed _ _ _ _ _ _ _ _ c.refusal_of-number.ensures c.if-number-gt0.false c.point-limits.ensures c.room_of-room.ensures c.cells_of-cells.ensures
