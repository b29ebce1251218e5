-- `scaled` meets its contract, by the law of an even exponent split off. Assumes nothing.
use mathlib.Core.Path.{◌≡◌, ap, ◌∙◌, subst⁻¹}
use Prim.Native.Nat.{ℕ, ◌+◌, ◌-◌, ◌*◌, ◌/◌, ◌≤◌, ◌<◌}
use native.Mathlib.Omega.{arith}
use lib.Ieee.{binary32, of_bits}
use Rattle.model.proofs.Root.Floor.{near_root}
use Rattle.root.proofs.Exponent.{wide, wide-range, widened, near-range, split}
use Rattle.root.proofs.scaled.Goals as goal

pub near-requires : goal.near-requires
near-requires c = let h = c.requires in
    let r = wide-range c.args.m c.args.p h.0 h.1 in
    let e = widened c.args.m c.args.p h.0 h.1 in
    (subst⁻¹ (λ (x : ℕ). 70368744177664 ≤ x) e r.0, subst⁻¹ (λ (x : ℕ). x < 281474976710656) e r.1)

pub overflow_add-result : goal.overflow_add-result
overflow_add-result c = let m = c.args.m in
    let p = c.args.p in
    let h = c.requires in
    let r = near-range m p h.0 h.1 in
    let e : c.near.result ≡ near_root (wide m p) = c.near.ensures ∙ ap near_root (widened m p h.0 h.1) in
    omega arith

pub returns : goal.returns
returns c = let m = c.args.m in
    let p = c.args.p in
    let h = c.requires in
    let r = near-range m p h.0 h.1 in
    let e : c.near.result ≡ near_root (wide m p) = c.near.ensures ∙ ap near_root (widened m p h.0 h.1) in
    (omega arith, ap (λ (x : ℕ). of_bits binary32 ((p - 23) / 2 * 8388608 + x)) e ∙ split m p h.0 h.1 h.2 h.3)
