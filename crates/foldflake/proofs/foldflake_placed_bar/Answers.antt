-- `foldflake::foldflake_placed_bar` meets its contract: the pose has four numbers, or 255 is told. Assumes nothing.
use lib.Ieee.{binary32}
use Rattle.model.specs.Ground.{vector}
use Rattle.shapes.specs.Shapes.{placed_bar_told, placed_bar_left}
use Rattle.foldflake.proofs.Placed.{no-pose, placed}
use borrow.Author.Rules.{rules}
use Rattle.foldflake.proofs.foldflake_placed_bar.Goals as goal

pub returns-then-pose-ne4 : goal.returns-then-pose-ne4
returns-then-pose-ne4 c = let a = c.args in
    no-pose (placed_bar_told binary32 (vector a.ax a.ay) (vector a.bx a.by))
    (placed_bar_left binary32 (vector a.ax a.ay) (vector a.bx a.by)) a.pose.now a.out.now c.if-pose-ne4.true

pub returns : goal.returns
returns c = let a = c.args in
    placed (placed_bar_told binary32 (vector a.ax a.ay) (vector a.bx a.by))
    (placed_bar_left binary32 (vector a.ax a.ay) (vector a.bx a.by)) a.pose.now a.out.now _ _ _ _
    c.if-pose-ne4.false c.pose_of-placement.ensures
    c.placed_bar.ensures c.built_number.ensures
