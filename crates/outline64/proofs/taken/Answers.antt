-- Written by tests/written/wide.py from outline, in f64.
-- `taken` meets its contract, by the step of both definitions at its corner. Assumes nothing.
use mathlib.Core.Path.{sym}
use lib.Ieee.{binary64}
use Rattle.model64.proofs.Support.{support-step}
use Rattle.model64.proofs.Second.{second-step}
use Rattle.outline64.proofs.taken.Goals as goal

pub returns-then-value-best : goal.returns-then-value-best
returns-then-value-best c =
    let a = c.args in
    let b = a.best in
    record {
      first = simp c.if-value-best.true at (sym (support-step binary64 a.direction a.origin a.points.now a.i b.first b.value c.requires));
      second = simp c.if-value-best.true at (sym (second-step binary64 a.direction a.origin a.points.now a.i b.second b.value c.requires));
    }

pub returns-then-value-best-2 : goal.returns-then-value-best-2
returns-then-value-best-2 c =
    let a = c.args in
    let b = a.best in
    record {
      first = simp c.if-value-best.false at (sym (support-step binary64 a.direction a.origin a.points.now a.i b.first b.value c.requires));
      second = simp (c.if-value-best.false, c.if-value-best-2.true) at (sym (second-step binary64 a.direction a.origin a.points.now a.i b.second b.value c.requires));
    }

pub returns-else-value-best-2 : goal.returns-else-value-best-2
returns-else-value-best-2 c =
    let a = c.args in
    let b = a.best in
    record {
      first = simp c.if-value-best.false at (sym (support-step binary64 a.direction a.origin a.points.now a.i b.first b.value c.requires));
      second = simp (c.if-value-best.false, c.if-value-best-2.false) at (sym (second-step binary64 a.direction a.origin a.points.now a.i b.second b.value c.requires));
    }
