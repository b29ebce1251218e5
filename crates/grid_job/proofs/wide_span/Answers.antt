-- `grid_job::wide_span` meets its contract. Assumes nothing.
use Prim.Native.Nat.{◌+◌, ◌/◌}
use native.Mathlib.Omega.{arith}
use Rattle.grid_job.proofs.Laws.{span-law, span-law-turned}
use borrow.Author.Rules.{rules}
use Rattle.grid_job.proofs.wide_span.Goals as goal

pub returns-then-a-b : goal.returns-then-a-b
returns-then-a-b c = let x = c.distance-a in
    let y = c.distance-b in
    let a = c.args in
    span-law a.x a.y x.result y.result ((x.result + 1) / 2) x.ensures y.ensures (omega arith) (omega arith) (omega arith)

pub returns-else-a-b : goal.returns-else-a-b
returns-else-a-b c = let x = c.distance-a in
    let y = c.distance-b in
    let a = c.args in
    span-law-turned a.x a.y x.result y.result ((y.result + 1) / 2) x.ensures y.ensures (omega arith) (omega arith) (omega arith)
