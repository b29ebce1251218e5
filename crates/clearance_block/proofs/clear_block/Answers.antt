-- `clearance_block::clear_block` meets its contract, by whether the block has all its bytes. Assumes nothing.
use mathlib.Core.Path.{◌≡◌}
use native.Mathlib.Omega.{arith}
use lib.ListN.{length}
use borrow.Author.Tests.{eq-eqb, ne_eqb}
use Rattle.clearance_block.specs.Answer.{AnswerOf}
use borrow.Author.Rules.{rules}
use Rattle.clearance_block.proofs.clear_block.Goals as goal

pub returns-then-part-ne512 : goal.returns-then-part-ne512
unfolding AnswerOf
returns-then-part-ne512 c = let b = c.args.part.now in
    let short : length b ≡ 512 → ⊥ = λ e. omega (arith, c.if-part-ne512.true, e) in
    rw (ne_eqb (length b) 512 short) c.refused.ensures

pub returns : goal.returns
unfolding AnswerOf
returns c = let b = c.args.part.now in
    let whole : length b ≡ 512 = omega (arith, c.if-part-ne512.false) in
    rw (eq-eqb (length b) 512 whole) c.look_checked.ensures
