-- `pattern` meets its contract. Assumes nothing.
use Rattle.std.proofs.Common.{ℕ, ◌-◌, ◌*◌, ◌^◌, ◌<◌, ◌≤◌, sym, ap, ◌∙◌, subst, arith}
use lib.Ieee.{binary64}
use Rattle.model.specs.Root.{root_units}
use Rattle.model.proofs.Root.Law.{gap, shifted, low_bits, mid-bits}
use Rattle.root64.proofs.pattern.Goals as goal

pub overflow_cast-z : goal.overflow_cast-z
overflow_cast-z c = let b = c.args.b in
    let s = shifted binary64 b c.requires.0 (omega arith) in
    omega arith

pub overflow_sub-z : goal.overflow_sub-z
overflow_sub-z c = let b = c.args.b in
    let s = shifted binary64 b c.requires.0 (omega arith) in
    omega arith

pub overflow_shl-b : goal.overflow_shl-b
overflow_shl-b c = let b = c.args.b in
    let s = shifted binary64 b c.requires.0 (omega arith) in
    omega arith

pub overflow_sub-z-then-e-eq0 : goal.overflow_sub-z-then-e-eq0
overflow_sub-z-then-e-eq0 c = let b = c.args.b in
    let s = shifted binary64 b c.requires.0 (omega arith) in
    omega arith

pub scaled-requires : goal.scaled-requires
scaled-requires c = let b = c.args.b in
    let s = shifted binary64 b c.requires.0 (omega arith) in
    (subst (λ (x : ℕ). 4503599627370496 ≤ x) (sym s.3) s.4, subst (λ (x : ℕ). x < 9007199254740992) (sym s.3) s.5, omega arith, omega arith)

pub returns-then-e-eq0 : goal.returns-then-e-eq0
returns-then-e-eq0 c = let b = c.args.b in
    let s = shifted binary64 b c.requires.0 (omega arith) in
    let e = c.scaled.ensures in
    (e.0, e.1 ∙ ap (λ (x : ℕ). root_units binary64 (x * 2 ^ (1074 - gap binary64 b))) s.3 ∙ low_bits binary64 b (gap binary64 b) c.requires.0 (omega arith) (omega arith))

pub returns-else-e-eq0 : goal.returns-else-e-eq0
returns-else-e-eq0 c = let b = c.args.b in
    let e = c.scaled-else-e-eq0.ensures in
    (e.0, e.1 ∙ mid-bits binary64 b (omega arith) c.requires.1)
