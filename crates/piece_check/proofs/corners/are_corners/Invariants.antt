-- No part passed is above 2^30. Assumes nothing.
use Prim.Native.Nat.{ℕ, ◌≤◌, ◌<◌}
use lib.ListN.{get_or}
use Rattle.piece_check.proofs.corners.are_corners.Given as goal

abbrev pub invariant-loop-i : goal.invariant-loop-i
invariant-loop-i l =
    ((k : ℕ) → k < l.i → get_or l.outline.xs.now k 0 ≤ 1073741824) × ((k : ℕ) → k < l.i → get_or l.outline.ys.now k 0 ≤ 1073741824)
