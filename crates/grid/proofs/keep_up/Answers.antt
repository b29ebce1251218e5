-- `keep_up` meets its contract. Assumes nothing.
use native.Mathlib.Omega.{arith}
use Rattle.grid.proofs.Keep.{kept-up}
use Rattle.grid.proofs.keep_up.Goals as goal

pub returns : goal.returns
returns c =
    let a = c.args in
    let s = c.size_up-s in
    let x = c.size_up-x in
    let y = c.size_up-y in (
      omega arith,
      λ h. kept-up a.slop a.a a.b a.g s.result x.result y.result c.max.result (omega arith) (omega arith) (omega arith)
          (s.ensures.1 h.slop) (x.ensures.1 h.first) (y.ensures.1 h.second),
    )
