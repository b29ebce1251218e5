-- `salvage_walk::passes_at` meets its contract: what is refused at once would be refused anyway. Assumes nothing.
use mathlib.Core.Path.{sym, ap, ◌∙◌}
use Prim.Native.Nat.{◌+◌, ◌-◌}
use native.Mathlib.Omega.{arith}
use Rattle.model.specs.Blocks.{is_good}
use Rattle.salvage_walk.proofs.Passing.{good-there, refused-by-7, refused-by-a, refused-by-b}
use Rattle.salvage_walk.proofs.passes_at.Goals as goal

pub returns-then-bytes-at-ne0 : goal.returns-then-bytes-at-ne0
returns-then-bytes-at-ne0 c = sym (refused-by-7 c.args.bytes.now c.args.at c.requires c.if-bytes-at-ne0.true)

pub returns-then-bad_count : goal.returns-then-bad_count
returns-then-bad_count c = sym (refused-by-a c.args.bytes.now c.args.at c.requires (sym c.bad_count.ensures ∙ c.if-bad_count.true))

pub returns-then-bad_count-2 : goal.returns-then-bad_count-2
returns-then-bad_count-2 c = sym (refused-by-b c.args.bytes.now c.args.at c.requires (sym c.bad_count-2.ensures ∙ c.if-bad_count-2.true))

pub returns : goal.returns
returns c = c.good.ensures ∙ ap is_good c.check_block.ensures
    ∙ good-there c.args.bytes.now c.args.at c.requires (c.args.at + 512 - c.args.at) (omega arith)
