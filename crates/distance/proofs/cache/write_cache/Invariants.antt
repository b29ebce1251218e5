-- `cache::write_cache` meets its contract. The invariant: the first i entries are replaced. Assumes nothing.
use mathlib.Core.Path.{◌≡◌}
use Rattle.model.specs.Simplex.{slot}
use Rattle.model.specs.Distance.{replaced}
use Rattle.distance.proofs.cache.write_cache.Given as goal

abbrev pub invariant-loop-i : goal.invariant-loop-i
invariant-loop-i l = (l.index_a ≡ replaced l.initial.index_a l.i (λ j. (slot l.simplex j).index_a))
    × (l.index_b ≡ replaced l.initial.index_b l.i (λ j. (slot l.simplex j).index_b))
