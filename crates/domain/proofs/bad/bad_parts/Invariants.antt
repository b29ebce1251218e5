-- `bad::bad_parts` meets its contract. The invariant: a bad part was met, or what is left has one, just where the list has one. Assumes nothing.
use mathlib.Core.Bool.{◌||◌}
use mathlib.Core.Path.{◌≡◌}
use lib.Ieee.{binary32}
use lib.ListN.{drop}
use Rattle.model.specs.Domain.{bad_parts}
use Rattle.domain.proofs.bad.bad_parts.Given as goal

abbrev pub invariant-loop-x : goal.invariant-loop-x
invariant-loop-x l = (bad_parts binary32 (drop l.x-index l.points) || l.bad) ≡ bad_parts binary32 l.points
