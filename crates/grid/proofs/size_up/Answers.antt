-- `size_up` meets its contract. Assumes nothing.
use mathlib.Core.Path.{◌≡◌, sym, ap, ◌∙◌, subst}
use Prim.Native.Nat.{ℕ, ◌+◌, ◌-◌, ◌*◌, ◌/◌, ◌%◌, ◌^◌, ◌≤◌, ◌<◌}
use native.Mathlib.Omega.{arith}
use Rattle.grid.specs.Grid.{unit, Raised}
use Rattle.grid.proofs.Sizes.{size_is}
use borrow.Author.Rules.{rules}
use Rattle.grid.proofs.size_up.Goals as goal

pub returns : goal.returns
returns c = let b = c.args.bits in
    let g = c.args.g in
    let e = size_is b g c.significand-m.result c.place-k.result c.significand-m.ensures.0
    c.place-k.ensures.0 in
    let r = c.raise.ensures in
    (r.0, λ h. subst (λ (n : ℕ). Raised n c.raise.result) e (r.1 (subst (λ (n : ℕ). n < 4294967296 * unit) (sym e) h.small)))
