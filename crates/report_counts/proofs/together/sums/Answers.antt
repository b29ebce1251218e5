-- `report_counts::together::sums` meets its contract: the rows so far are sums, the others still the first list's. Assumes nothing.
use Rattle.std.proofs.Common.{◌≡◌, length, rules}
use Rattle.report_counts.proofs.Sums.{one_more, all-summed}
use Rattle.report_counts.proofs.together.sums.Goals as goal

pub loop-i-preserved : goal.loop-i-preserved
loop-i-preserved c = let l = c.loop-i in
    let a = c.args in
    let same : length a.a ≡ length a.b = search rules in
    (search rules, one_more a.a a.b same l.both l.i _ (search rules) l.invariant.1 c.wrapping_add_u64.ensures.value)

pub returns : goal.returns
returns c = let l = c.loop-i in
    let a = c.args in
    let same : length a.a ≡ length a.b = search rules in
    all-summed a.a a.b same l.both l.i (search rules) l.invariant.1
