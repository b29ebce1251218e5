-- `text::read::read_numbers` meets its contract: what the bytes left do to the words so far is what the whole line does. Assumes nothing.
use mathlib.Core.Path.{refl, sym, ◌∙◌}
use native.Mathlib.Omega.{arith}
use Rattle.text.proofs.ReadBack.{stored_one, stored-none, counted-one}
use borrow.Author.Rules.{rules}
use Rattle.text.proofs.read.read_numbers.Goals as goal

pub loop-x-init : goal.loop-x-init
loop-x-init c = (search rules, refl, refl)

pub loop-x-preserved : goal.loop-x-preserved
loop-x-preserved c = let l = c.loop-x in
    let a = c.args in
    let s = c.store in (
      omega (arith, c.next_count-k.ensures, counted-one a.line.now l.x-index l.k, l.invariant.0),
      s.auto.words ∙ l.invariant.1,
      rw (c.next_count-k.ensures, c.next_value-value.ensures, s.ensures)
          (sym (stored_one a.decimals l.k l.value l.words a.line.now l.x-index (search rules)) ∙ l.invariant.2),
    )

pub returns : goal.returns
returns c = let l = c.loop-x in
    sym (stored-none _ _ _ _ _ _ c.loop-x-test.false) ∙ l.invariant.2
