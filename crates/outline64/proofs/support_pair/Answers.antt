-- Written by tests/written/wide.py from outline, in f64.
-- `support_pair` meets its contract. The invariant: what is left of the list, from the best so far, gives what the whole gives.
-- Assumes nothing.
use Prim.Native.Nat.{◌≤◌, ◌/◌}
use native.Mathlib.Omega.{arith}
use mathlib.Core.Path.{◌≡◌, sym, ◌∙◌}
use lib.Ieee.{binary64}
use lib.ListN.{length, drop}
use Rattle.model64.specs.Ground as Ground
use Rattle.model64.specs.Support.{point, support_from}
use Rattle.model64.specs.Second.{second_from}
use Rattle.model64.proofs.Support.{support-stop}
use Rattle.model64.proofs.Second.{second-stop}
use Rattle.outline64.proofs.support_pair.Goals as goal

pub returns-then-count-lt2 : goal.returns-then-count-lt2
returns-then-count-lt2 c = let a = c.args in
    let o = point a.points.now 0 in
    let none : length a.points.now / 2 ≤ 1 = omega (arith, c.if-count-lt2.true) in
    rw (
      support-stop binary64 a.direction o a.points.now 1 0 (Ground.zero binary64) none,
      second-stop binary64 a.direction o a.points.now 1 0 (Ground.zero binary64) none,
    )

pub loop-i-preserved : goal.loop-i-preserved
loop-i-preserved c = let l = c.loop-i in
    let t = c.taken-best.ensures in
    (t.first ∙ l.invariant.0, t.second ∙ l.invariant.1)

pub returns : goal.returns
returns c =
    let l = c.loop-i in
    let b = l.best in
    let a = c.args in
    let o = point a.points.now 0 in
    let none : length a.points.now / 2 ≤ l.i = omega (arith, c.loop-i-test.false) in
    -- what is found when no corner is left
    let first : b.first ≡ support_from binary64 a.direction o (drop 2 a.points.now) 1 0 (Ground.zero binary64) =
    sym (support-stop binary64 a.direction o a.points.now l.i b.first b.value none) ∙ l.invariant.0 in
    let second : b.second ≡ second_from binary64 a.direction o (drop 2 a.points.now) 1 0 (Ground.zero binary64) =
    sym (second-stop binary64 a.direction o a.points.now l.i b.second b.value none) ∙ l.invariant.1 in
    rw (← first, ← second)
