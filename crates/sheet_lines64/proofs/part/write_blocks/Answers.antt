-- Written by tests/written/wide.py from sheet_lines, in f64.
-- `sheet_lines::part::write_blocks` meets its contract: the lines of the blocks so far are written, and the totals are theirs. Assumes nothing.
use mathlib.Core.Path.{◌≡◌, refl}
use Prim.Native.Nat.{◌+◌, ◌*◌, ◌-◌}
use native.Mathlib.Omega.{arith}
use Rattle.model.specs.Blocks.{whole_blocks}
use Rattle.model64.specs.Sheet.{lines_from, totals_from}
use Rattle.model.specs.Parts.{count_limit}
use Rattle.text.proofs.Written.{wrote-nothing, wrote-most}
use Rattle.sheet_lines64.proofs.Parts.{below_less, below_more, line_step, totals-step}
use Rattle.sheet_lines64.proofs.part.write_blocks.Goals as goal

pub loop-i-init : goal.loop-i-init
unfolding whole_blocks lines_from totals_from
loop-i-init c = record { lines = wrote-nothing _ _; totals_value = refl; bound = below_less (omega arith) c.requires.1 }

pub write_answer-totals-requires : goal.write_answer-totals-requires
write_answer-totals-requires c = let l = c.loop-i in
    (omega (arith, c.requires.0, l.invariant.lines.most, l.invariant.lines.size), below_less (omega arith) l.invariant.bound)

pub loop-i-preserved : goal.loop-i-preserved
loop-i-preserved c =
    let l = c.loop-i in
    let w = c.write_answer-totals.ensures in
    let x = c.answer_block-answer in
    let whole : 512 * l.i + 512 - 512 * l.i ≡ 512 = omega arith in
    let so_far = l.invariant.totals_value in
    record {
      lines = wrote-most (omega arith) (line_step _ _ _ _ _ whole so_far _ x.ensures (omega arith) l.invariant.lines w.line);
      totals_value = totals-step _ _ _ _ _ whole so_far _ x.ensures w.totals_value;
      bound = rw w.totals_value (below_less (omega arith) (below_more (count_limit + l.i) l.totals x.result l.invariant.bound));
    }
