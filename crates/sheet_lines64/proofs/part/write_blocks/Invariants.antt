-- Written by tests/written/wide.py from sheet_lines, in f64.
-- `sheet_lines::part::write_blocks` meets its contract: the lines of the blocks so far are written, and the totals are theirs. Assumes nothing.
use Prim.Native.Nat.{◌+◌, ◌*◌}
use mathlib.Core.Path.{◌≡◌}
use lib.Ieee.{binary64}
use Rattle.model64.specs.Sheet.{whole_answers, lines_from, totals_from}
use Rattle.model.specs.Parts.{count_limit}
use Rattle.text.specs.Written.{Wrote}
use Rattle.sheet_lines64.specs.Part.{Below, longest_line}
use Rattle.sheet_lines64.proofs.part.write_blocks.Given as goal

abbrev pub invariant-loop-i : goal.invariant-loop-i
invariant-loop-i l =
    record {
      lines : Wrote (longest_line * l.i) l.initial.draft (lines_from binary64 l.initial.totals.blocks (whole_answers binary64 l.i l.part)) l.draft;
      totals_value : l.totals ≡ totals_from l.initial.totals (whole_answers binary64 l.i l.part);
      bound : Below (count_limit + l.i) l.totals;
    }
