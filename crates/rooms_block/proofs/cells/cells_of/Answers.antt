-- One letter more at each turn. Assumes nothing.
use native.Mathlib.Omega.{arith}
use lib.ListN.{length}
use Prim.Native.Nat.{◌<◌}
use Rattle.rooms_block.proofs.Laws.{cell-more}
use Rattle.rooms_block.proofs.cells.cells_of.Goals as goal

pub loop-k-preserved : goal.loop-k-preserved
loop-k-preserved c =
    let l = c.loop-k in
    let told = rw (c.edge.ensures, c.edge-in-loop-k.ensures) at c.letter.ensures in
    let inside : l.k < length l.cell-items = omega arith in
    cell-more _ _ _ c.args.end l.cell-items l.k c.letter.result inside l.invariant told
