-- `grid_job::less` meets its contract. Assumes nothing.
use native.Mathlib.Omega.{arith}
use Rattle.grid.specs.Grid.{int_of}
use Rattle.grid_job.proofs.Laws.{put, less-law}
use borrow.Author.Rules.{rules}
use Rattle.grid_job.proofs.less.Goals as goal

pub returns : goal.returns
returns c = let b1 = c.before.before.before.before.before.before in
    let a = b1.grid-a in
    let b = c.grid-b in
    let f = b1.args in
    less-law f.x f.c f.g (int_of a.result) (int_of b.result) c.norm.result
    (put f.x b1.to_bits.result f.g (int_of a.result) b1.to_bits.ensures
    b1.requires.0 a.ensures)
    (put f.c b1.to_bits-2.result f.g (int_of b.result) b1.to_bits-2.ensures b1.requires.1 b.ensures)
    c.norm.ensures
