-- `foldflake::foldflake_gap` meets its contract: the lists have their lengths, and the answer is told. Assumes nothing.
use Rattle.foldflake.proofs.Moment.{gap-room, gap-told, gap-misfit}
use borrow.Author.Rules.{rules}
use Rattle.foldflake.proofs.foldflake_gap.Goals as goal

pub tell_gap-requires : goal.tell_gap-requires
tell_gap-requires c = let a = c.args in
    gap-room a.points_a.now a.move_a.now a.points_b.now a.move_b.now a.fraction a.out.now c.if-move_a-move_b.true

pub returns-then-move_a-move_b : goal.returns-then-move_a-move_b
returns-then-move_a-move_b c = let a = c.args in
    let moves = c.before.before.before.before.before in
    gap-told a.points_a.now a.move_a.now a.points_b.now a.move_b.now a.fraction a.out.now _ _ _ _ _
    moves.if-move_a-move_b.true moves.move_of-sweep_a.ensures moves.move_of-sweep_b.ensures
    c.gap_at-apart.ensures c.tell_gap.ensures

pub returns-else-move_a-move_b : goal.returns-else-move_a-move_b
returns-else-move_a-move_b c = let a = c.args in gap-misfit a.points_a.now a.move_a.now a.points_b.now
    a.move_b.now a.fraction a.out.now c.if-move_a-move_b.false
