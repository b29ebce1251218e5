-- `units_of` meets its contract. Assumes nothing.
use mathlib.Core.Path.{sym, ap, ◌∙◌, subst}
use Prim.Native.Nat.{ℕ, ◌-◌, ◌*◌, ◌^◌, ◌≤◌, ◌<◌}
use native.Mathlib.Omega.{arith}
use lib.Ieee.{binary32}
use Rattle.model.specs.Root.{root_units}
use Rattle.model.proofs.Root.Law.{gap, shifted, low_bits, mid-bits}
use Rattle.root.proofs.units_of.Goals as goal

pub overflow_cast-z : goal.overflow_cast-z
overflow_cast-z c = let b = c.args.b in
    let s = shifted binary32 b c.requires.0 (omega arith) in
    omega arith

pub overflow_sub-z : goal.overflow_sub-z
overflow_sub-z c = let b = c.args.b in
    let s = shifted binary32 b c.requires.0 (omega arith) in
    omega arith

pub overflow_shl-result : goal.overflow_shl-result
overflow_shl-result c = let b = c.args.b in
    let s = shifted binary32 b c.requires.0 (omega arith) in
    omega arith

pub overflow_sub-result : goal.overflow_sub-result
overflow_sub-result c = let b = c.args.b in
    let s = shifted binary32 b c.requires.0 (omega arith) in
    omega arith

pub returns-then-e-eq0 : goal.returns-then-e-eq0
returns-then-e-eq0 c = let b = c.args.b in
    let s = shifted binary32 b c.requires.0 (omega arith) in (
      subst (λ (x : ℕ). 8388608 ≤ x) (sym s.3) s.4,
      subst (λ (x : ℕ). x < 16777216) (sym s.3) s.5,
      omega arith,
      omega arith,
      ap (λ (x : ℕ). root_units binary32 (x * 2 ^ (149 - gap binary32 b))) s.3
          ∙ low_bits binary32 b (gap binary32 b) c.requires.0 (omega arith) (omega arith),
    )

pub returns-else-e-eq0 : goal.returns-else-e-eq0
returns-else-e-eq0 c = let b = c.args.b in
    (omega arith, omega arith, omega arith, omega arith, mid-bits binary32 b (omega arith) c.requires.1)
