-- `block::check_block` meets its contract: the form comes first, then the check, then the fields. Assumes nothing.
use Rattle.std.proofs.Common.{sym, ap, ◌∙◌}
use Rattle.model.specs.Block.{known_form}
use Rattle.block.proofs.Laws.{unknown-form, wrong-check, wrong-fields, all_right}
use Rattle.block.proofs.check_block.Goals as goal

pub returns-then-not-known_form : goal.returns-then-not-known_form
returns-then-not-known_form c = unknown-form _ (ap known_form (sym c.byte.ensures) ∙ sym c.known_form.ensures ∙ c.if-not-known_form.true)

pub returns-then-not-check_holds : goal.returns-then-not-check_holds
returns-then-not-check_holds c = let form = c.before.before in
    let known = ap known_form (sym form.byte.ensures) ∙ sym form.known_form.ensures ∙ form.if-not-known_form.false in
    wrong-check _ known (sym c.check_holds.ensures ∙ c.if-not-check_holds.true)

pub returns-then-bad_fields : goal.returns-then-bad_fields
returns-then-bad_fields c = let sum = c.before.before.before in
    let form = sum.before.before in
    let known = ap known_form (sym form.byte.ensures) ∙ sym form.known_form.ensures ∙ form.if-not-known_form.false in
    let holds = sym sum.check_holds.ensures ∙ sum.if-not-check_holds.false in
    rw c.word-job.ensures (wrong-fields _ known holds (sym c.bad_fields.ensures ∙ c.if-bad_fields.true))

pub returns : goal.returns
returns c = let sum = c.before.before.before in
    let form = sum.before.before in
    let known = ap known_form (sym form.byte.ensures) ∙ sym form.known_form.ensures ∙ form.if-not-known_form.false in
    let holds = sym sum.check_holds.ensures ∙ sum.if-not-check_holds.false in
    rw c.block_of.ensures (all_right _ known holds (sym c.bad_fields.ensures ∙ c.if-bad_fields.false))
