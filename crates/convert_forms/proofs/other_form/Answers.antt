-- `convert_forms::other_form` meets its contract: the block is copied, its form changed, and the check that fits copied behind. Assumes nothing.
use Rattle.std.proofs.Common.{◌≡◌, ap, ◌∙◌, set, length, arith}
use Rattle.std.proofs.Math.ListN.{length-set}
use Rattle.convert_forms.proofs.Laws.{made, check-copied}
use Rattle.convert_forms.proofs.other_form.Goals as goal

pub returns : goal.returns
returns c = let copy = c.copy_from_slice.ensures.after in
    let form = c.other_number-form in
    let turned = set c.copy_from_slice.new.self 6 form.result in
    let size : length turned ≡ 512 = length-set c.copy_from_slice.new.self 6 form.result ∙ ap length copy ∙ c.requires in
    rw (c.copy_from_slice-2.ensures.after, c.word_bytes.ensures)
    (check-copied turned _ size ∙ made c.args.bytes.now _ _ _ c.requires copy form.ensures c.sum_before-check.ensures)
