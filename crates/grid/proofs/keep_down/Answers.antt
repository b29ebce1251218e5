-- `keep_down` meets its contract: by the slop, or by the radii. Assumes nothing.
use mathlib.Core.Path.{◌≡◌, subst}
use mathlib.Core.Logic.{◌⊎◌, inl, inr}
use Prim.Native.Nat.{ℕ, max, ◌+◌, ◌≤◌, ◌<◌}
use native.Mathlib.Omega.{arith}
use Rattle.integers.proofs.Signed.{le-or-lt}
use Rattle.grid.specs.Grid.{KeptDown}
use Rattle.grid.proofs.Keep.{radii-down, slop-down}
use Rattle.grid.proofs.keep_down.Goals as goal

larger : (S : ℕ → Type 0) (s x r : ℕ) → r ≡ max s x → S s → S x → S r
larger S s x r e by_s by_x = go (le-or-lt s x)
  where
    go : (s ≤ x) ⊎ (x < s) → S r
    go (inl l) = subst S (omega (arith, e)) by_x
    go (inr l) = subst S (omega (arith, e)) by_s

pub returns : goal.returns
returns c =
    let a = c.args in
    let s = c.size_down-s in
    let x = c.size_down-x in
    let y = c.size_down-y in (
      omega arith,
      λ h. larger (KeptDown a.slop a.a a.b a.g) s.result (x.result + y.result) c.max.result c.max.ensures
          (slop-down a.slop a.a a.b a.g s.result x.result y.result (s.ensures.1 h.slop))
          (radii-down a.slop a.a a.b a.g s.result x.result y.result (x.ensures.1 h.first) (y.ensures.1 h.second)),
    )
