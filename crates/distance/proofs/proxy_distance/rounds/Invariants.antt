-- `proxy_distance::rounds` meets its contract. The invariant: the rounds that are left give what all 20 give. Assumes nothing.
use Prim.Native.Nat.{◌≤◌, ◌-◌}
use mathlib.Core.Path.{◌≡◌}
use lib.Ieee.{binary32}
use Rattle.model.specs.Distance.{rounds_from}
use Rattle.distance.proofs.proxy_distance.rounds.Given as goal

abbrev pub invariant-loop-iterations : goal.invariant-loop-iterations
invariant-loop-iterations l = (l.count ≤ 3)
    × (rounds_from binary32 l.points_a l.points_b l.pos12 (20 - l.iterations) l.simplex l.count l.direction l.iterations
    ≡ rounds_from binary32 l.points_a l.points_b l.pos12 20 l.initial.simplex l.initial.count l.initial.direction 0)
