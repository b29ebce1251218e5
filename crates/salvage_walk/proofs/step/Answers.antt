-- `salvage_walk::step` meets its contract: a byte is skipped, or a block copied and the run before it told. Assumes nothing.
use mathlib.Core.Path.{sym, ◌∙◌}
use Prim.Native.Nat.{◌+◌, ◌-◌}
use native.Mathlib.Omega.{arith}
use Rattle.salvage_walk.proofs.Laws.{skipping, keeping}
use Rattle.salvage_walk.proofs.step.Goals as goal

pub returns-then-not-passes_at : goal.returns-then-not-passes_at
returns-then-not-passes_at c =
    let from = c.args.from in
    let h = skipping c.args.bytes.now from.at from.walk c.requires.block_size_in_bounds.0 c.args.file.now from.file c.args.text.now from.text
    (sym c.passes_at.ensures ∙ c.if-not-passes_at.true) in
    record { at_value = h.0; put = h.1 }

pub returns : goal.returns
returns c =
    let from = c.args.from in
    let good = sym c.passes_at.ensures ∙ c.if-not-passes_at.false in
    let h = keeping c.args.bytes.now from.at from.walk c.requires.block_size_in_bounds.0 _ _ _ _ _ _ _ _ (from.at + 512 - from.at) good (omega arith)
    c.requires.block_size_in_bounds.1 c.put_text-file_end.ensures c.put_run-text_end.ensures in
    record { at_value = h.0; put = h.1 }
