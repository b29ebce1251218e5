-- `foldflake::foldflake_pose` meets its contract: the lists have their lengths, and the answer is told. Assumes nothing.
use mathlib.Core.Path.{ap, ◌∙◌}
use lib.Ieee.{binary32}
use Rattle.at_fraction.specs.Moment.{pose_at}
use Rattle.foldflake.proofs.Moment.{pose-room, pose-told, pose-misfit}
use borrow.Author.Rules.{rules}
use Rattle.foldflake.proofs.foldflake_pose.Goals as goal

pub tell_pose-requires : goal.tell_pose-requires
tell_pose-requires c = let a = c.args in
    pose-room a.planned.now a.fraction a.out.now c.if-planned-out.true

pub returns-then-planned-out : goal.returns-then-planned-out
returns-then-planned-out c = let a = c.args in
    let is = c.pose_at-pose.ensures ∙ ap (λ w. pose_at binary32 w a.fraction)
    c.move_of.ensures in
    pose-told a.planned.now a.fraction a.out.now _ _ _ c.if-planned-out.true is
    c.tell_pose.ensures

pub returns-else-planned-out : goal.returns-else-planned-out
returns-else-planned-out c = let a = c.args in pose-misfit a.planned.now a.fraction a.out.now c.if-planned-out.false
