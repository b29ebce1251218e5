-- `bar` meets its contract: its check refuses, or it is built. Assumes nothing.
use mathlib.Core.Path.{refl, ◌∙◌}
use Rattle.shapes.proofs.Endings.{check-refused, check-passed}
use Rattle.shapes.proofs.bar.Goals as goal

pub returns-in_err-check_bar : goal.returns-in_err-check_bar
returns-in_err-check_bar c =
    check-refused _ _ (λ k. k) (λ j. refl) _ _ c.check_bar.ensures _ c.in_err-check_bar.was _ c.from_residual.ensures.1

pub returns : goal.returns
returns c =
    let first = check-passed _ _ (λ k. k) (λ j. refl) _ _ c.check_bar.ensures c.in_ok-check_bar.was in
    let built = c.build.ensures in
    (built.0 ∙ first.0, built.1 ∙ first.1)
