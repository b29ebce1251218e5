-- `report_counts::together::sums` meets its contract: the rows so far are sums, the others still the first list's. Assumes nothing.
use Rattle.std.proofs.Common.{◌≡◌, ◌-◌, ◌≤◌, ◌++◌, length, take, drop}
use Rattle.report_counts.specs.Report.{sums}
use Rattle.report_counts.proofs.together.sums.Given as goal

abbrev pub invariant-loop-i : goal.invariant-loop-i
invariant-loop-i l = (length l.both ≡ 28) × (l.both ≡ take l.i (sums l.fn.a l.fn.b) ++ drop l.i l.fn.a)
