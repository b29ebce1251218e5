-- `cut` meets its contract. Assumes nothing.
use mathlib.Core.Path.{◌≡◌, sym, ap, ◌∙◌, subst}
use Prim.Native.Nat.{ℕ, ◌+◌, ◌-◌, ◌*◌, ◌/◌, ◌%◌, ◌^◌, ◌≤◌, ◌<◌}
use native.Mathlib.Omega.{arith}
use lib.Pow.{shr_le, shl_exact}
use borrow.Author.Rules.{rules}
use Rattle.grid.specs.Grid.{Floored}
use Rattle.grid.proofs.Shifts.{right, right_far, left, left-small, none_left, of-nothing}
use Rattle.grid.proofs.cut.Reads as reads
use Rattle.grid.proofs.cut.Lts as lts
use Rattle.grid.proofs.cut.Goals as goal

pub returns-then-d-lt24 : goal.returns-then-d-lt24
returns-then-d-lt24 c = let m = c.args.m in
    let p = c.args.p in
    (omega (arith, shr_le m (149 - p), (right m p (149 - p) (omega arith)).low), λ h. right m p (149 - p) (omega arith))

pub returns-else-d-lt24 : goal.returns-else-d-lt24
returns-else-d-lt24 c = let m = c.args.m in
    let p = c.args.p in
    (omega arith, λ h. right_far m p (149 - p) (omega arith) (omega arith) c.requires)

pub returns-then-r-lt4294967296 : goal.returns-then-r-lt4294967296
returns-then-r-lt4294967296 c = let m = c.args.m in
    let p = c.args.p in (
      omega arith,
      λ h. subst (Floored (m * 2 ^ p)) (sym (shl_exact {a = m} 24 (p - 149) 64 c.requires (omega arith))) (left m p (p -
          149) (omega arith)),
    )

pub returns-else-r-lt4294967296 : goal.returns-else-r-lt4294967296
returns-else-r-lt4294967296 c = let m = c.args.m in
    let p = c.args.p in
    let e = shl_exact {a = m} 24 (p - 149) 64 c.requires (omega arith) in
    (omega arith, λ h. let l = left-small m p (p - 149) (omega arith) h in absurd (omega arith))

pub returns-else-s-lt32 : goal.returns-else-s-lt32
returns-else-s-lt32 c = let m = c.args.m in
    let p = c.args.p in
    (omega arith, λ h. subst (λ (x : ℕ). Floored (x * 2 ^ p) 0) (sym (none_left m p (p - 149) (omega arith) h (omega arith))) (of-nothing p))
