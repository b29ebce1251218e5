-- `gaps_lines::part::write_blocks` meets its contract: the lines of the blocks so far are written, and the tally is theirs. Assumes nothing.
use Rattle.std.proofs.Common.{◌≡◌, ◌+◌, ◌*◌, length}
use Rattle.std.specs.Float.{binary32}
use Rattle.model.specs.Blocks.{whole_blocks}
use Rattle.model.specs.Parts.{count_limit}
use Rattle.runs.proofs.Walked.{Walked}
use Rattle.text.specs.Written.{Wrote}
use Rattle.gaps_lines.specs.Gaps.{longest_line, lines_from, tally_from}
use Rattle.gaps_lines.specs.Part.{Below}
use Rattle.gaps_lines.proofs.part.write_blocks.Given as goal

abbrev pub invariant-loop-block : goal.invariant-loop-block
invariant-loop-block l =
    record {
      walked : Walked l.part (length l.yielded) l.block-iterator;
      lines : Wrote (longest_line * length l.yielded) l.initial.draft (lines_from binary32 l.fn.t.blocks (whole_blocks (length l.yielded) l.part)) l.draft;
      tally_value : l.tally ≡ tally_from binary32 l.fn.t (whole_blocks (length l.yielded) l.part);
      bound : Below (count_limit + length l.yielded) l.tally;
    }
