-- The room so far is kept; no more rounds failed than there were. Assumes nothing.
use Prim.Native.Nat.{◌≤◌}
use Rattle.rooms_block.specs.Rooms.{Keeps}
use Rattle.rooms_block.proofs.room.widest.Given as goal

abbrev pub invariant-loop-round : goal.invariant-loop-round
invariant-loop-round l =
    (l.failed ≤ l._round) × Keeps l.planned.points_a.now l.planned.points_b.now l.planned.numbers.now l.s.room
