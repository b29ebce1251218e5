-- `convert_forms::convert_block` meets its contract: what is not written in one place is in the other. Assumes nothing.
use mathlib.Core.Path.{sym, ap, ◌∙◌}
use Rattle.model.specs.Blocks.{is_good}
use Rattle.text.proofs.Pasted.{put-nothing}
use Rattle.text.proofs.Lengths.{roomy}
use Rattle.convert_forms.proofs.Laws.{put-turned}
use Rattle.convert_forms.proofs.convert_block.Goals as goal

pub returns-then-good : goal.returns-then-good
returns-then-good c = let good = ap is_good (sym c.check_block.ensures) ∙ sym c.good.ensures ∙ c.if-good.true in
    rw good (record { put = put-turned c.args.bytes.now _ c.requires.block_size_in_bounds.0 c.requires.bytes_len.0 c.other_form-turned.ensures c.put_text-end.ensures; put_2 = put-nothing _ _ })

pub returns : goal.returns
returns c = let bad = ap is_good (sym c.check_block.ensures) ∙ sym c.good.ensures ∙ c.if-good.false in
    rw bad (record { put = put-nothing _ _; put_2 = roomy 21 c.put_number-end.ensures c.requires.block_size_in_bounds.1 })
