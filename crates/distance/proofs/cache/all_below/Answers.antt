-- `cache::all_below` meets its contract. The invariant: the flag tells of the first i indices. Assumes nothing.
use native.Mathlib.Omega.{arith}
use mathlib.Core.Path.{◌≡◌, refl}
use Rattle.model.specs.Distance.{all_below}
use Rattle.distance.proofs.Laws.{below_step}
use Rattle.distance.proofs.cache.all_below.Goals as goal

pub loop-i-init : goal.loop-i-init
unfolding all_below
loop-i-init c = refl

pub loop-i-preserved : goal.loop-i-preserved
loop-i-preserved c = let l = c.loop-i in
    let a = c.args in
    rw (below_step a.limit a.indices l.i, l.invariant, c.below-all.ensures)

pub returns : goal.returns
returns c = let l = c.loop-i in
    let e : l.i ≡ c.args.count = omega arith in
    rw (← e) l.invariant
