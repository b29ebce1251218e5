-- `rooms_block::room::keeps` meets its contract: where the answer is clear, the room is kept. Assumes nothing.
use mathlib.Core.Path.{sym, ◌∙◌}
use Rattle.rooms_block.proofs.Laws.{kept}
use Rattle.rooms_block.proofs.room.keeps.Goals as goal

pub returns : goal.returns
returns c = λ e. kept _ _ _ _ c.look.result c.look.ensures (sym c.is_clear.ensures ∙ e)
