-- `work64::floats_at` meets its contract: the floats so far, taken over from f32, stand at the start. Assumes nothing.
use borrow.Author.Rules.{rules}
use mathlib.Core.Path.{refl, ap, ◌∙◌}
use native.Mathlib.Nat.{le_trans}
use lib.Ieee.{binary32, of_bits}
use Rattle.model.specs.Work.{floats_at}
use Rattle.work64.proofs.Laws.{floats-set, floats-first}
use Rattle.work64.proofs.floats_at.Goals as goal

pub loop-i-init : goal.loop-i-init
unfolding floats_at
loop-i-init c = (refl, refl)

pub loop-i-preserved : goal.loop-i-preserved
loop-i-preserved c = (
  search rules,
  floats-set _ _ _ _ _ (search rules) c.loop-i.invariant.1 (c.taken_over.ensures ∙ ap (of_bits binary32) c.word.ensures),
)

pub returns : goal.returns
returns c = let l = c.loop-i in
    (l.invariant.0, λ n h. floats-first _ _ _ _ l.invariant.1 n (le_trans h c.loop-i-test.false))
