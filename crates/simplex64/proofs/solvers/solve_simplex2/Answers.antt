-- Written by tests/written/wide.py from simplex, in f64.
-- `solvers::solve_simplex2` meets its contract: each ending is the law of its region. Assumes nothing.
use mathlib.Core.Path.{◌≡◌, refl}
use lib.Ieee.{binary64, neg}
use Rattle.model64.specs.Simplex.{slot, near, far, solve_simplex2}
use Rattle.simplex64.proofs.Laws.{first-of-two, second-of-two, edge-of-two, keep-1, keep-2, keep-12}
use Rattle.simplex64.proofs.solvers.solve_simplex2.Goals as goal
use Rattle.simplex64.proofs.solvers.solve_simplex2.Goals.{After-dot-d12_1}
use Rattle.simplex64.proofs.solvers.solve_simplex2.Goals.{After-dot-d12_2}

far-is : (c : After-dot-d12_2) → neg c.dot-d12_2.result
    ≡ far binary64 (slot c.args.simplex 0).w
    (slot c.args.simplex 1).w
far-is c = simp (c.dot-d12_2.ensures, c.sub-e12.ensures)

near-is : (c : After-dot-d12_1) → c.dot-d12_1.result
    ≡ near binary64 (slot c.args.simplex 0).w
    (slot c.args.simplex 1).w
near-is c = simp (c.dot-d12_1.ensures, c.sub-e12.ensures)

pub returns-then-d12_2 : goal.returns-then-d12_2
unfolding solve_simplex2
returns-then-d12_2 c = let n = c.before.before.before in
    keep-1 binary64 _ _ (first-of-two binary64 _ _ _ _ refl (far-is n) c.if-d12_2.true) _ c.neg-direction.ensures

pub returns-then-d12_1 : goal.returns-then-d12_1
unfolding solve_simplex2
returns-then-d12_1 c = let n = c.before.before.before.before in
    keep-2 binary64 _ _ (second-of-two binary64 _ _ _ _ (near-is n) (far-is n.before.before) n.if-d12_2.false
    c.if-d12_1.true) _ c.neg-direction-then-d12_1.ensures

pub returns : goal.returns
unfolding solve_simplex2
returns c = let n = c.before.before.before.before in
    keep-12 binary64 _ _ (edge-of-two binary64 _ _ _ _ (near-is n) (far-is n.before.before) n.if-d12_2.false c.if-d12_1.false)
    _ _
    (near-is n) (far-is n.before.before) _ c.off_edge-direction.ensures
