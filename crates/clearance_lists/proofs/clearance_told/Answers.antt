-- The lists have their lengths, and the answer is told. Assumes nothing.
use Rattle.clearance_lists.proofs.Laws.{few-pieces, lengths, reported, misfit}
use borrow.Author.Rules.{rules}
use Rattle.clearance_lists.proofs.clearance_told.Goals as goal

pub tell-requires : goal.tell-requires
tell-requires c = let f = c.args in
    let sizes = lengths f.numbers.now f.out.now f.pieces.now c.if-numbers-out.true in
    (sizes.1, sizes.2, few-pieces f.points_a.now f.points_b.now f.numbers.now f.from c.clearance-answer.result c.clearance-answer.ensures)

pub returns-then-numbers-out : goal.returns-then-numbers-out
returns-then-numbers-out c = let f = c.args in
    reported f.numbers.now f.out.now f.pieces.now f.points_a.now f.points_b.now f.from c.clearance-answer.result
    c.point-limits.result _ _ _ c.if-numbers-out.true c.clearance-answer.ensures c.point-limits.ensures
    c.tell.ensures

pub returns-else-numbers-out : goal.returns-else-numbers-out
returns-else-numbers-out c = let f = c.args in
    misfit f.numbers.now f.out.now f.pieces.now f.points_a.now f.points_b.now f.from c.if-numbers-out.false
