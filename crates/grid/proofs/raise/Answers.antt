-- `raise` meets its contract. Assumes nothing.
use mathlib.Core.Path.{◌≡◌, sym, ap, ◌∙◌, subst}
use Prim.Native.Nat.{ℕ, ◌+◌, ◌-◌, ◌*◌, ◌/◌, ◌%◌, ◌^◌, ◌≤◌, ◌<◌}
use native.Mathlib.Omega.{arith}
use lib.Pow.{shr_le, shl_exact}
use Rattle.grid.specs.Grid.{unit, Floored, Raised}
use Rattle.grid.proofs.Shifts.{cut-back, right-even, right-up, right-far-up, nothing-up, left_is, whole-up}
use borrow.Author.Rules.{rules}
use Rattle.grid.proofs.raise.Goals as goal

pub overflow_add-result : goal.overflow_add-result
overflow_add-result c = let l = shr_le c.args.m (149 - c.args.p) in omega arith

pub returns-then-q-d : goal.returns-then-q-d
returns-then-q-d c = let m = c.args.m in
    let p = c.args.p in
    let d = 149 - p in
    let l = shr_le m d in
    let k = cut-back m p d (omega arith) in
    let e = shl_exact {a = m / 2 ^ d} 24 d 64 (omega arith) (omega arith) in
    (omega arith, λ h. right-even m p d (omega arith) (omega arith))

pub returns-else-q-d : goal.returns-else-q-d
returns-else-q-d c = let m = c.args.m in
    let p = c.args.p in
    let d = 149 - p in
    let l = shr_le m d in
    let k = cut-back m p d (omega arith) in
    let e = shl_exact {a = m / 2 ^ d} 24 d 64 (omega arith) (omega arith) in
    (omega arith, λ h. right-up m p d (omega arith) (omega arith))

pub returns-then-m-eq0 : goal.returns-then-m-eq0
returns-then-m-eq0 c = let m = c.args.m in
    let p = c.args.p in
    (omega arith, λ h. nothing-up m p (omega arith))

pub returns-else-m-eq0 : goal.returns-else-m-eq0
returns-else-m-eq0 c = let m = c.args.m in
    let p = c.args.p in
    (omega arith, λ h. right-far-up m p (149 - p) (omega arith) (omega arith) c.requires (omega arith))

pub returns-else-p-lt149 : goal.returns-else-p-lt149
returns-else-p-lt149 c = let m = c.args.m in
    let p = c.args.p in
    let q = c.cut.result in
    let e = left_is m p (p - 149) (omega arith) in (
      omega (arith, c.cut.ensures.0),
      λ h. subst (λ (n : ℕ). Raised n q) (sym e) (whole-up (m * 2 ^ (p - 149)) q (subst (λ (n : ℕ). Floored n q) e
          (c.cut.ensures.1 h))),
    )
