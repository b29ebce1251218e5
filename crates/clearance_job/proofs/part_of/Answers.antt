-- Each test leaves what is asked, and none stops a part that was started. Assumes nothing.
use Prim.Native.Nat.{◌≤◌, ◌<◌}
use native.Mathlib.Omega.{arith}
use lib.Ieee.{binary32, to_bits}
use Rattle.clearance_job.proofs.Laws.{down_by, start-by, high-whole, low-high, high-low}
use Rattle.clearance_job.proofs.part_of.Goals as goal
use Rattle.clearance_job.proofs.part_of.Goals.{then-high-gt16777216-via-then-high-gt16777216, then-high-gt16777216-via-else-high-gt16777216+then-first-high, then-high-gt16777216-via-else-high-gt16777216+else-first-high+then-low-high, then-high-gt16777216-via-else-high-gt16777216+else-first-high+else-low-high+then-high-low}

pub returns-then-high-gt16777216 : goal.returns-then-high-gt16777216
returns-then-high-gt16777216 c = λ h.
    let f = c.args in
    let first = c.min-first.result in
    let early : first ≤ c.fraction_down.result = omega (arith, c.min-first.ensures) in
    let before : first < 16777216 = omega (arith, c.min-first.ensures) in
    let low = c.fraction_down-low in
    let high = c.end_after-high in
    let whole = high-whole f.from f.end c.fraction_down.result first low.result high.result h c.fraction_down.ensures early before low.ensures high.ensures in
    let over = low-high f.from f.end c.fraction_down.result first low.result high.result h c.fraction_down.ensures early before low.ensures high.ensures in
    let under = high-low f.from f.end c.fraction_down.result first low.result high.result h c.fraction_down.ensures early before low.ensures high.ensures in
    elim c.then-high-gt16777216.branch [
      | then-high-gt16777216-via-then-high-gt16777216 w ↦ omega (arith, whole)
      | then-high-gt16777216-via-else-high-gt16777216+then-first-high w ↦ omega (arith, high.ensures.after)
      | then-high-gt16777216-via-else-high-gt16777216+else-first-high+then-low-high w ↦ omega (arith, over)
      | then-high-gt16777216-via-else-high-gt16777216+else-first-high+else-low-high+then-high-low w ↦ omega (arith, under)
    ]

pub returns : goal.returns
returns c =
    let f = c.args in
    let from-small : to_bits binary32 f.from ≤ 1065353216 = rw c.to_bits.ensures at c.if-to_bits-gt1065353216.false in
    let end-small : to_bits binary32 f.end ≤ 1065353216 = rw c.to_bits-else-to_bits-gt1065353216.ensures at c.if-to_bits-gt1065353216-2.false in
    let low = c.fraction_down-low in
    record {
      span = record { some = c.if-first-high.false; whole = c.if-high-gt16777216.false; over = c.if-low-high.false; under = c.if-high-low.false };
      starts = start-by f.from c.fraction_down.result c.min-first.result c.fraction_down.ensures (omega (arith, c.min-first.ensures)) from-small;
      within = down_by f.end low.result low.ensures end-small;
      ends = c.end_after-high.ensures.ends end-small;
    }
