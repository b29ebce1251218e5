-- `report_batches::add_blocks` meets its contract: the blocks so far are counted in. Assumes nothing.
use Rattle.std.proofs.Common.{◌≡◌, length}
use Rattle.std.specs.Float.{binary32}
use Rattle.model.specs.Sheet.{whole_answers}
use Rattle.runs.proofs.Walked.{Walked}
use Rattle.report_counts.specs.Report.{counted_all}
use Rattle.report_batches.proofs.add_blocks.Given as goal

abbrev pub invariant-loop-block : goal.invariant-loop-block
invariant-loop-block l =
    let i = length l.yielded in
    Walked l.part i l.block-iterator × (l.so_far ≡ counted_all l.initial.so_far (whole_answers binary32 i l.part))
