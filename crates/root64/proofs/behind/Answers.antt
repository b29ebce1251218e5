-- `behind` meets its contract: what is left past t * (t + 1) tells which of the three it is. Assumes nothing.
use Rattle.std.proofs.Common.{◌≡◌, ◌+◌, ◌*◌, ◌<◌, refl, arith}
use Rattle.root64.proofs.Neighbours.{past, three, fit, few}
use Rattle.root64.proofs.behind.Goals as goal

pub overflow_add-upper : goal.overflow_add-upper
overflow_add-upper c = let u = c.upper.ensures.1 in
    let b = c.below-borrow.ensures.2 in
    record { fits = omega arith }

pub overflow_add-result : goal.overflow_add-result
overflow_add-result c = record { fits = (fit _ c.requires.1).0 }

pub overflow_mul-t-2 : goal.overflow_mul-t-2
overflow_mul-t-2 c = record { fits = (fit _ c.requires.1).1 }

pub overflow_add-t-3 : goal.overflow_add-t-3
overflow_add-t-3 c = record { fits = (fit _ c.requires.1).2 }

pub overflow_add-result-2 : goal.overflow_add-result-2
overflow_add-result-2 c = let h = c.requires in
    let b = c.below.ensures.2 in
    record { fits = omega arith }

pub overflow_mul-t-3 : goal.overflow_mul-t-3
overflow_mul-t-3 c = record { fits = (fit _ c.requires.1).3 }

pub overflow_add-t-4 : goal.overflow_add-t-4
overflow_add-t-4 c = record { fits = (fit _ c.requires.1).4 }

pub overflow_add-result-3 : goal.overflow_add-result-3
overflow_add-result-3 c = let h = c.requires in
    let b = c.below.ensures.2 in
    let e = c.below-2.ensures.2 in
    record { fits = omega arith }

pub returns : goal.returns
returns c =
    let m = c.args.m in
    let t = c.args.t in
    let borrow = c.below-borrow in
    let upper = c.upper in
    let w = c.wrapping_sub_u64 in
    let d = c.wrapping_sub_u64-d in
    let left : d.result < 6 * t = c.if-d-t.false in
    let h = c.requires in
    let n : m * 4503599627370496 ≡ t * (t + 1) + d.result + 1 =
    past m (t * (t + 1)) upper.result c.lower-product.result _ borrow.result w.result d.result h.0 refl c.lower-product.ensures
    upper.ensures.0 (borrow.ensures.0, borrow.ensures.1) c.if-upper-borrow.false
    w.ensures.value w.type_inv d.ensures.value (few t d.result h.1 left) in
    let one = c.below.ensures in
    let two = c.below-2.ensures in
    λ _. three _ t d.result _ _ n left (one.0, one.1) (two.0, two.1)
