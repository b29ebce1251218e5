-- What is clear up to u, a piece that passes carries on; the pieces are counted. Assumes nothing.
use Rattle.clearance_verdict.proofs.Laws.{Progress}
use Rattle.clearance_verdict.proofs.settle.Given as goal

abbrev pub invariant-loop-tried : goal.invariant-loop-tried
invariant-loop-tried l =
    Progress l.case.job l.case.on.a.xs.now l.case.on.a.ys.now l.case.on.b.xs.now l.case.on.b.ys.now l.from l.high l.u l.h l.tried
