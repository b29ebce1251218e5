-- `digits` meets its contract. The invariant: q and rem are the root of the number's digits down to the weight 4 ^ k, and what is left of those. Assumes nothing.
use Rattle.std.proofs.Common.{◌*◌, ◌^◌, arith}
use Rattle.root64.proofs.Pairs.{start, room, again, ends}
use Rattle.root64.proofs.digits.Goals as goal

pub loop-k-init : goal.loop-k-init
loop-k-init c = start (c.args.m * 4 ^ c.args.z) c.args.d c.requires.2

pub step-c-requires : goal.step-c-requires
step-c-requires c = let at-start = c.before.before.before in
    let l = c.loop-k in
    let r = room (at-start.args.m * 4 ^ at-start.args.z) at-start.args.d l.k l.c.q l.c.rem at-start.requires.0 l.invariant in
    (l.invariant.2, r, omega arith)

pub loop-k-preserved : goal.loop-k-preserved
loop-k-preserved c = let at-start = c.before.before.before.before in
    let l = c.loop-k in
    let e = c.step-c.ensures in
    again (at-start.args.m * 4 ^ at-start.args.z) at-start.args.d l.k l.c.q l.c.rem c.step-c.result.q c.step-c.result.rem c.pair.result
    c.loop-k-test.true l.invariant c.pair.ensures e.0 e.1 e.2

pub returns : goal.returns
returns c = let at-start = c.before.before in
    let l = c.loop-k in
    ends (at-start.args.m * 4 ^ at-start.args.z) at-start.args.d l.k l.c.q l.c.rem (omega arith) l.invariant
