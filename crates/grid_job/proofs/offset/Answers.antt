-- `grid_job::offset` meets its contract. Assumes nothing.
use Prim.Native.Nat.{◌+◌, ◌-◌}
use native.Mathlib.Omega.{arith}
use Rattle.grid_job.proofs.Laws.{offset-law}
use borrow.Author.Rules.{rules}
use Rattle.grid_job.proofs.offset.Goals as goal

pub returns : goal.returns
returns c = let f = c.args in
    let r = c.less-d.result in
    offset-law f.x f.c f.g r (536870912 + r.p - r.m) c.less-d.ensures (omega (arith, c.less-d.ensures.small))
