-- `salvage_walk::walk_on` meets its contract: the steps so far are the first of all, and what is left falls. Assumes nothing.
use mathlib.Core.Path.{◌≡◌}
use Prim.Native.Nat.{◌-◌}
use lib.ListN.{length}
use Rattle.salvage_walk.proofs.Laws.{Walked}
use Rattle.salvage_walk.proofs.walk_on.Given as goal

abbrev pub invariant-loop-reached : goal.invariant-loop-reached
invariant-loop-reached l =
    (length l.file ≡ length l.initial.file) × (length l.text ≡ length l.initial.text)
    × Walked l.bytes l.initial.reached.walk l.initial.file l.initial.text l.reached.at l.reached.walk l.file l.reached.file l.text l.reached.text

abbrev pub decreases-loop-reached : goal.decreases-loop-reached
decreases-loop-reached l = length l.bytes - l.reached.at
