-- `grid_job::fraction_up` meets its contract. Assumes nothing.
use native.Mathlib.Omega.{arith}
use Rattle.grid.specs.Grid.{int_of}
use Rattle.grid_job.proofs.Laws.{whole-fraction, up-law}
use borrow.Author.Rules.{rules}
use Rattle.grid_job.proofs.fraction_up.Goals as goal

pub returns-then-b-gt1065353216 : goal.returns-then-b-gt1065353216
returns-then-b-gt1065353216 c = whole-fraction c.args.x c.to_bits-b.result c.to_bits-b.ensures (omega arith)

pub returns : goal.returns
returns c = let n = c.natural in
    let a = c.grid_up in
    up-law c.args.x c.to_bits-b.result n.result (int_of a.result)
    c.to_bits-b.ensures (omega arith) a.ensures n.ensures.0 n.ensures.1 n.ensures.2 n.ensures.3
