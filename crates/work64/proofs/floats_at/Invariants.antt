-- `work64::floats_at` meets its contract: the floats so far, taken over from f32, stand at the start. Assumes nothing.
use mathlib.Core.Path.{◌≡◌}
use lib.ListN.{length, take}
use Rattle.model.specs.Work.{floats_at}
use Rattle.work64.proofs.floats_at.Given as goal

abbrev pub invariant-loop-i : goal.invariant-loop-i
invariant-loop-i l = (length l.x-items ≡ 32) × (take l.i l.x-items ≡ floats_at l.bytes l.from l.i)
