-- `place` meets its contract. The invariant: the corners so far are moved, and the others are as they were. Assumes nothing.
use Rattle.std.proofs.Common.{◌≡◌, ◌++◌, map, take, drop}
use Rattle.std.specs.Float.{binary32}
use Rattle.model.specs.Ground.{on_point}
use Rattle.shapes.proofs.place.Given as goal

abbrev pub invariant-loop-corner : goal.invariant-loop-corner
invariant-loop-corner l = l.corners ≡ map (on_point binary32 l.pose) (take l.corner-index l.initial.corners) ++ drop l.corner-index l.initial.corners
