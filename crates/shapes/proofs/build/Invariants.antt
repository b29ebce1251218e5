-- `build` meets its contract. The invariant: the corners so far stand at the front of the list, and the rest is as it was. Assumes nothing.
use Rattle.std.proofs.Common.{◌≡◌, ◌*◌, ◌++◌, take, drop}
use Rattle.shapes.specs.Shapes.{flat}
use Rattle.shapes.proofs.build.Given as goal

abbrev pub invariant-loop-i : goal.invariant-loop-i
invariant-loop-i l = l.out ≡ flat (take l.i l.corners) ++ drop (2 * l.i) l.initial.out
