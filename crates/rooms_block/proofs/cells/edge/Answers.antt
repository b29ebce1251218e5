-- `rooms_block::cells::edge` meets its contract, by what its callees ensure. Assumes nothing.
use mathlib.Core.Path.{ap, ◌∙◌}
use lib.Ieee.{binary32, of_bits}
use borrow.Author.Rules.{rules}
use Rattle.rooms_block.proofs.cells.edge.Goals as goal

pub returns : goal.returns
returns c = simp (c.from_bits-share.ensures, c.place_bits.ensures)
