-- Written by tests/written/wide.py from distance, in f64.
-- `cache::write_cache` meets its contract. The invariant: the first i entries are replaced. Assumes nothing.
use native.Mathlib.Omega.{arith}
use mathlib.Core.Path.{◌≡◌, refl}
use Rattle.model64.specs.Simplex.{slot}
use Rattle.model.specs.Distance.{replaced}
use Rattle.distance64.proofs.Laws.{replaced-step}
use Rattle.distance64.proofs.cache.write_cache.Goals as goal

pub loop-i-init : goal.loop-i-init
unfolding replaced
loop-i-init c = (refl, refl)

pub loop-i-preserved : goal.loop-i-preserved
loop-i-preserved c = let l = c.loop-i in
    let a = c.args in (
      rw (replaced-step a.cache.index_a l.i (λ j. (slot a.simplex j).index_a), l.invariant.0),
      rw (replaced-step a.cache.index_b l.i (λ j. (slot a.simplex j).index_b), l.invariant.1),
    )

pub returns : goal.returns
returns c = let l = c.loop-i in
    let e : l.i ≡ c.args.count = omega arith in
    rw (l.invariant.0, l.invariant.1, e)
