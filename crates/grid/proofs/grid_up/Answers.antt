-- `grid_up` meets its contract. Assumes nothing.
use native.Mathlib.Omega.{arith}
use Rattle.grid.proofs.Signs.{plus-up, minus-up, cut_fits, raised-fits}
use borrow.Author.Rules.{rules}
use Rattle.grid.proofs.grid_up.Goals as goal

pub returns-then-bits-lt2147483648 : goal.returns-then-bits-lt2147483648
returns-then-bits-lt2147483648 c = let a = c.args in
    let q = c.size_up-q in
    record {
      small = omega arith;
      is = λ h. plus-up a.bits a.g q.result (omega arith) (q.ensures.1 h);
      fits = λ n r h. let k = raised-fits a.bits a.g n q.result h (q.ensures.1 r) in omega arith;
    }

pub returns-else-bits-lt2147483648 : goal.returns-else-bits-lt2147483648
returns-else-bits-lt2147483648 c = let a = c.args in
    let q = c.size_down-q in
    record {
      small = omega arith;
      is = λ h. minus-up a.bits a.g q.result (omega arith) (q.ensures.1 h);
      fits = λ n r h. let k = cut_fits a.bits a.g n q.result h (q.ensures.1 r) in omega arith;
    }
