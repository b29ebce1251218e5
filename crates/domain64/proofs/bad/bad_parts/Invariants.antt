-- Written by tests/written/wide.py from domain, in f64.
-- `bad::bad_parts` meets its contract. The invariant: a bad part was met, or what is left has one, just where the list has one. Assumes nothing.
use mathlib.Core.Bool.{◌||◌}
use mathlib.Core.Path.{◌≡◌}
use lib.Ieee.{binary64}
use lib.ListN.{drop}
use Rattle.model64.specs.Domain.{bad_parts}
use Rattle.domain64.proofs.bad.bad_parts.Given as goal

abbrev pub invariant-loop-x : goal.invariant-loop-x
invariant-loop-x l = (bad_parts binary64 (drop l.x-index l.points) || l.bad) ≡ bad_parts binary64 l.points
