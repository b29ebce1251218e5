-- `sweep_toi::same_cache` meets its contract, part by part. Assumes nothing.
use Rattle.sweep_toi.proofs.Steps.{caches-same}
use Rattle.sweep_toi.proofs.sweep_toi.same_cache.Goals as goal

pub returns : goal.returns
returns c =
    let a = c.args in
    caches-same a.x a.y _ _ c.same_three-of_a.ensures c.same_three-of_b.ensures
