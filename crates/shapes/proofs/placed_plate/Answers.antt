-- `placed_plate` meets its contract: its check refuses, or that of the pose, or it is built. Assumes nothing.
use mathlib.Core.Path.{refl, ◌∙◌}
use lib.Ieee.{binary32}
use Rattle.model.specs.Domain.{pose_refusal, or_else}
use Rattle.shapes.proofs.Endings.{check-refused, check-passed, pose-refused, pose-passed}
use Rattle.shapes.proofs.placed_plate.Goals as goal

pub returns-in_err-check_plate : goal.returns-in_err-check_plate
returns-in_err-check_plate c =
    check-refused _ _ (λ k. or_else k (pose_refusal binary32 c.args.pose)) (λ j. refl)
    _ _ c.check_plate.ensures _ c.in_err-check_plate.was _ c.from_residual.ensures.1

pub returns-in_default : goal.returns-in_default
returns-in_default c =
    let first = check-passed _ _ (λ k. or_else k (pose_refusal binary32 c.args.pose)) (λ j. refl) _ _ c.check_plate.ensures c.in_ok-check_plate.was in
    let no = pose-refused _ _ _ _ _ c.check_pose-posed.ensures _ c.in_default.is _ c.pose_refusal-number.ensures in
    (no.0 ∙ first.0, no.1 ∙ first.1)

pub returns : goal.returns
returns c =
    let first = check-passed _ _ (λ k. or_else k (pose_refusal binary32 c.args.pose)) (λ j. refl) _ _ c.check_plate.ensures c.in_ok-check_plate.was in
    let (told, left, same) = pose-passed _ _ _ _ _ c.check_pose-posed.ensures _ c.in-Ok.is in
    let built = rw (c.place.ensures, c.plate_corners-corners.ensures, same) at c.build.ensures in
    (built.0 ∙ told ∙ first.0, built.1 ∙ left ∙ first.1)
