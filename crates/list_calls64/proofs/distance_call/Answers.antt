-- Written by tests/written/wide.py from list_calls, in f64.
-- `list_calls::distance_call` meets its contract: the lists have their lengths, the rounds are few, and the answer is told. Assumes nothing.
use native.Mathlib.Omega.{arith}
use Rattle.list_calls64.proofs.Told.{distance-lengths, distance-rounds, distance-told, wrong-length, wrong-count}
use Rattle.list_calls64.proofs.distance_call.Goals as goal

pub bounds-cache-1 : goal.bounds-cache-1
bounds-cache-1 c = let a = c.args in
    omega (arith, (distance-lengths a.numbers.now a.cache.now a.out.now c.if-numbers-cache.true).1)

pub cache_of-start-requires : goal.cache_of-start-requires
cache_of-start-requires c = let a = c.args in
    ((distance-lengths a.numbers.now a.cache.now a.out.now c.if-numbers-cache.true).1, c.if-cache-lt256.true)

pub tell_distance-requires : goal.tell_distance-requires
tell_distance-requires c = let a = c.args in
    let sizes = distance-lengths a.numbers.now a.cache.now a.out.now c.if-numbers-cache.true in
    (sizes.1, sizes.2, rw c.distance_of-measured.ensures (distance-rounds _ _ _ _ _ _))

pub returns-then-cache-lt256 : goal.returns-then-cache-lt256
returns-then-cache-lt256 c = let a = c.args in
    distance-told a.numbers.now a.cache.now a.out.now a.points_a.now a.points_b.now a.use_radii a.pair _ _ _ _ _
    c.if-numbers-cache.true
    c.if-cache-lt256.true
    c.cache_of-start.ensures
    c.distance_of-measured.ensures c.tell_distance.ensures

pub returns-else-cache-lt256 : goal.returns-else-cache-lt256
returns-else-cache-lt256 c = let a = c.args in
    wrong-count a.numbers.now a.cache.now a.out.now a.points_a.now a.points_b.now a.use_radii a.pair c.if-numbers-cache.true
    c.if-cache-lt256.false

pub returns-else-numbers-cache : goal.returns-else-numbers-cache
returns-else-numbers-cache c = let a = c.args in
    wrong-length a.numbers.now a.cache.now a.out.now a.points_a.now a.points_b.now a.use_radii a.pair c.if-numbers-cache.false
