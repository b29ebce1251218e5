-- `block::sum_of_words` meets its contract: the sum before the check may have wrapped, and the check is the last word. Assumes nothing.
use Rattle.std.proofs.Common.{ℕ, ◌%◌, ◌^◌, ap}
use native.Mathlib.Nat.{mod-add-mod}
use Rattle.block.proofs.Laws.{sum_step}
use Rattle.block.proofs.sum_of_words.Goals as goal

pub returns : goal.returns
returns c = simp (c.word.ensures, c.sum_before-sum.ensures, mod-add-mod)
    (ap (λ (n : ℕ). n % 2 ^ 32) (sum_step _ 127))
