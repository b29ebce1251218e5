-- `rooms_lines::part::write_blocks` meets its contract: the blocks so far are worked. Assumes nothing.
use Rattle.std.proofs.Common.{◌+◌, ◌*◌, length}
use Rattle.model.specs.Blocks.{whole_blocks}
use Rattle.model.specs.Parts.{count_limit}
use Rattle.runs.proofs.Walked.{Walked}
use Rattle.rooms_lines.specs.Lines.{longest_line}
use Rattle.rooms_lines.specs.Part.{Below, Worked}
use Rattle.rooms_lines.proofs.part.write_blocks.Given as goal

abbrev pub invariant-loop-block : goal.invariant-loop-block
invariant-loop-block l =
    record {
      walked : Walked l.part (length l.yielded) l.block-iterator;
      worked : Worked (longest_line * length l.yielded) l.fn.t (whole_blocks (length l.yielded) l.part) l.initial.draft l.draft l.totals;
      bound : Below (count_limit + length l.yielded) l.totals;
    }
