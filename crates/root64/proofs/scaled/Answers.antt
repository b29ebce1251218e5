-- `scaled` meets its contract, by the law of an even exponent split off. Assumes nothing.
use Rattle.std.proofs.Common.{ℕ, ◌+◌, ◌-◌, ◌*◌, ◌/◌, ap, ◌∙◌, arith}
use lib.Ieee.{binary64, of_bits}
use Rattle.model.proofs.Root.Law.{law-range}
use Rattle.root64.proofs.Single.{even-64, odd-64, odd-range-64}
use Rattle.root64.proofs.scaled.Goals as goal

pub overflow_add-result : goal.overflow_add-result
overflow_add-result c = let m = c.args.m in
    let h = c.requires in
    let r = law-range binary64 m 0 h.0 h.1 (omega arith) in
    let e = c.near.ensures in
    omega arith

pub overflow_add-result-else-p-eq0 : goal.overflow_add-result-else-p-eq0
overflow_add-result-else-p-eq0 c = let m = c.args.m in
    let h = c.requires in
    let r = odd-range-64 m h.0 h.1 in
    let e = c.near-else-p-eq0.ensures in
    omega arith

pub returns-then-p-eq0 : goal.returns-then-p-eq0
returns-then-p-eq0 c = let m = c.args.m in
    let h = c.requires in
    let r = law-range binary64 m 0 h.0 h.1 (omega arith) in
    let e = c.near.ensures in
    let p = c.args.p in
    (omega arith, ap (λ (x : ℕ). of_bits binary64 ((p - 52) / 2 * 4503599627370496 + x)) e ∙ even-64 m p h.0 h.1 h.2 h.3 c.if-p-eq0.true)

pub returns-else-p-eq0 : goal.returns-else-p-eq0
returns-else-p-eq0 c = let m = c.args.m in
    let h = c.requires in
    let r = odd-range-64 m h.0 h.1 in
    let e = c.near-else-p-eq0.ensures in
    let p = c.args.p in
    (omega arith, ap (λ (x : ℕ). of_bits binary64 ((p - 52) / 2 * 4503599627370496 + x)) e ∙ odd-64 m p h.0 h.1 h.2 h.3 c.if-p-eq0.false)
