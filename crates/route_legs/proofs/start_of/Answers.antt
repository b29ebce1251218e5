-- `route_legs::start_of` meets its contract: the lengths so far add up. Assumes nothing.
use Rattle.std.proofs.Common.{◌≡◌, ◌<◌, get_or, length, take, arith, rules}
use Rattle.std.proofs.Math.Seq.{length-take-le}
use Rattle.std.proofs.lemmas.List.{get_or-take}
use Rattle.route_legs.proofs.Starts.{start_none, start-more}
use Rattle.route_legs.proofs.start_of.Goals as goal

pub loop-n-init : goal.loop-n-init
loop-n-init c = (start_none _, omega arith)

pub loop-n-preserved : goal.loop-n-preserved
loop-n-preserved c = let l = c.loop-n in
    let i = l.n-index in
    let size = length-take-le c.args.j c.args.lengths.now c.requires.0 in
    let here = get_or-take c.args.j c.args.lengths.now i 0 (omega (arith, size)) in (
      rw (here, l.invariant.0) (start-more c.args.lengths.now i),
      omega (arith, here, c.type_inv.lengths i),
    )

pub returns : goal.returns
returns c = let l = c.loop-n in
    let done : l.n-index ≡ c.args.j = omega (arith, length-take-le c.args.j c.args.lengths.now c.requires.0) in
    (rw (← done) l.invariant.0, omega (arith, l.invariant.1, done))
