-- What is clear up to u, a piece that passes carries on; the pieces are counted. Assumes nothing.
use mathlib.Core.Path.{subst}
use Prim.Native.Nat.{ℕ, ◌+◌, ◌-◌}
use native.Mathlib.Omega.{arith}
use Rattle.board.specs.Board.{ClearBetween}
use Rattle.clearance_verdict.proofs.Laws.{joined, told-settled}
use Rattle.clearance_verdict.proofs.settle.Goals as goal

pub returns-then-to-high : goal.returns-then-to-high
returns-then-to-high c =
    let l = c.loop-tried in
    let e = c.args.case.now in
    let from = c.args.stretch.from in
    let on = e.on in (
      subst (λ (v : ℕ). ClearBetween e.job from v on.a.xs.now on.a.ys.now on.b.xs.now on.b.ys.now) (omega (
        arith,
        c.if-to-high.true,
        c.min-step.ensures,
        l.invariant.below,
      ))
          (joined e.job on.a.xs.now on.a.ys.now on.b.xs.now on.b.ys.now from l.u (l.u + c.min-step.result) l.invariant.after l.invariant.clear
          (c.try_piece.ensures c.if-try_piece.true)),
      omega (arith, c.loop-tried-test.true),
    )

pub loop-tried-preserved-then-try_piece : goal.loop-tried-preserved-then-try_piece
loop-tried-preserved-then-try_piece c =
    let l = c.loop-tried in
    let e = c.args.case.now in
    let on = e.on in
    record {
      after = omega (arith, l.invariant.after);
      below = c.if-to-high.false;
      some = omega (arith, c.min-step.ensures, l.invariant.some, l.invariant.below);
      small = omega (arith, c.min-step.ensures, c.requires.whole);
      few = omega (arith, c.loop-tried-test.true);
      clear = λ m. joined e.job on.a.xs.now on.a.ys.now on.b.xs.now on.b.ys.now c.args.stretch.from l.u (l.u + c.min-step.result) l.invariant.after
          l.invariant.clear (c.try_piece.ensures c.if-try_piece.true);
    }

pub returns-then-step-le1 : goal.returns-then-step-le1
returns-then-step-le1 c =
    let l = c.loop-tried in
    let e = c.args.case.now in
    let s = c.args.stretch in
    let on = e.on in
    rw c.told.ensures (told-settled e.job on.a.xs.now on.a.ys.now on.b.xs.now on.b.ys.now s.from s.low s.high l.u _
    c.last_look-look.result l.invariant.after (omega (arith, l.invariant.below, c.requires.under)) (omega arith)
    (omega (arith, c.loop-tried-test.true))
    l.invariant.clear c.last_look-look.ensures)
