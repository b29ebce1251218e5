-- `cache::all_below` meets its contract. The invariant: the flag tells of the first i indices. Assumes nothing.
use mathlib.Core.Path.{◌≡◌}
use Rattle.model.specs.Distance.{all_below}
use Rattle.distance.proofs.cache.all_below.Given as goal

abbrev pub invariant-loop-i : goal.invariant-loop-i
invariant-loop-i l = l.all ≡ all_below l.limit l.indices l.i
