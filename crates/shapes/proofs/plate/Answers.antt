-- `plate` meets its contract: its check refuses, or it is built. Assumes nothing.
use mathlib.Core.Path.{refl, ◌∙◌}
use Rattle.shapes.proofs.Endings.{check-refused, check-passed}
use Rattle.shapes.proofs.plate.Goals as goal

pub returns-in_err-check_plate : goal.returns-in_err-check_plate
returns-in_err-check_plate c =
    check-refused _ _ (λ k. k) (λ j. refl) _ _ c.check_plate.ensures _ c.in_err-check_plate.was _ c.from_residual.ensures.1

pub returns : goal.returns
returns c =
    let first = check-passed _ _ (λ k. k) (λ j. refl) _ _ c.check_plate.ensures c.in_ok-check_plate.was in
    let built = rw c.plate_corners-corners.ensures at c.build.ensures in
    (built.0 ∙ first.0, built.1 ∙ first.1)
