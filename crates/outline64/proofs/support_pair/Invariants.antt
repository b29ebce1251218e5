-- Written by tests/written/wide.py from outline, in f64.
-- `support_pair` meets its contract. The invariant: what is left of the list, from the best so far, gives what the whole gives.
-- Assumes nothing.
use Prim.Native.Nat.{◌*◌}
use mathlib.Core.Path.{◌≡◌}
use lib.Ieee.{binary64}
use lib.ListN.{drop}
use Rattle.model64.specs.Ground as Ground
use Rattle.model64.specs.Support.{support_from}
use Rattle.model64.specs.Second.{second_from}
use Rattle.outline64.proofs.support_pair.Given as goal

abbrev pub invariant-loop-i : goal.invariant-loop-i
invariant-loop-i l = (support_from binary64 l.direction l.origin (drop (2 * l.i) l.points) l.i l.best.first l.best.value ≡ support_from binary64 l.direction l.origin (drop 2 l.points) 1 0
    (Ground.zero binary64))
    × (second_from binary64 l.direction l.origin (drop (2 * l.i) l.points) l.i l.best.second l.best.value ≡ second_from binary64 l.direction l.origin (drop 2 l.points) 1 0
    (Ground.zero binary64))
