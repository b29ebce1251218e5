-- `report_batches::report_batches` meets its contract: the batches so far are reported. Assumes nothing.
use Rattle.std.proofs.Common.{arith}
use Rattle.report_batches.proofs.Laws.{Reported, none-reported, one-reported, all-reported}
use Rattle.report_batches.proofs.report_batches.Goals as goal

pub loop-size-init : goal.loop-size-init
loop-size-init c = none-reported c.args.sizes.now c.args.batches.now _ c.empty-so_far.ensures

pub loop-size-preserved : goal.loop-size-preserved
loop-size-preserved c = let cut = c.split_at.ensures in
    let one = rw (c.opened.ensures, cut.front, c.min.ensures) at c.add_answers-one.ensures in
    rw (cut.back, c.min.ensures, c.merge-so_far.ensures) (one-reported c.loop-size.invariant c.loop-size-test.true _ one)

pub returns : goal.returns
returns c = all-reported (omega arith) c.loop-size.invariant
