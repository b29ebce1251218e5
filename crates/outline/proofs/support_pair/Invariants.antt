-- `support_pair` meets its contract. The invariant: what is left of the list, from the best so far, gives what the whole gives.
-- Assumes nothing.
use Prim.Native.Nat.{◌*◌}
use mathlib.Core.Path.{◌≡◌}
use lib.Ieee.{binary32}
use lib.ListN.{drop}
use Rattle.model.specs.Ground as Ground
use Rattle.model.specs.Support.{support_from}
use Rattle.model.specs.Second.{second_from}
use Rattle.outline.proofs.support_pair.Given as goal

abbrev pub invariant-loop-i : goal.invariant-loop-i
invariant-loop-i l = (support_from binary32 l.direction l.origin (drop (2 * l.i) l.points) l.i l.best.first l.best.value ≡ support_from binary32 l.direction l.origin (drop 2 l.points) 1 0
    (Ground.zero binary32))
    × (second_from binary32 l.direction l.origin (drop (2 * l.i) l.points) l.i l.best.second l.best.value ≡ second_from binary32 l.direction l.origin (drop 2 l.points) 1 0
    (Ground.zero binary32))
