-- `report_batches::report_batches` meets its contract: the batches so far are reported. Assumes nothing.
use Rattle.report_batches.proofs.Laws.{Reported}
use Rattle.report_batches.proofs.report_batches.Given as goal

abbrev pub invariant-loop-size : goal.invariant-loop-size
invariant-loop-size l = Reported l.sizes l.initial.rest l.size-index l.rest l.so_far
