-- `foldflake::foldflake_placed_plate` meets its contract: the pose has four numbers, or 255 is told. Assumes nothing.
use lib.Ieee.{binary32}
use Rattle.shapes.specs.Shapes.{placed_plate_told, placed_plate_left}
use Rattle.foldflake.proofs.Placed.{no-pose, placed}
use borrow.Author.Rules.{rules}
use Rattle.foldflake.proofs.foldflake_placed_plate.Goals as goal

pub returns-then-pose-ne4 : goal.returns-then-pose-ne4
returns-then-pose-ne4 c = let a = c.args in
    no-pose (placed_plate_told binary32 a.half_x a.half_y) (placed_plate_left binary32 a.half_x a.half_y) a.pose.now a.out.now c.if-pose-ne4.true

pub returns : goal.returns
returns c = let a = c.args in
    placed (placed_plate_told binary32 a.half_x a.half_y) (placed_plate_left binary32 a.half_x a.half_y) a.pose.now a.out.now _ _ _ _
    c.if-pose-ne4.false c.pose_of-placement.ensures
    c.placed_plate.ensures c.built_number.ensures
