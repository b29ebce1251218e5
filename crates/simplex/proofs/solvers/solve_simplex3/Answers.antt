-- `solvers::solve_simplex3` meets its contract: each ending is the law of its region. Assumes nothing.
use lib.Ieee.{binary32, neg, mul}
use Rattle.model.specs.Simplex.{slot, solve_simplex3}
use Rattle.simplex.proofs.Laws.{Told, at_1, on-12, on-13, at-2, at-3, on-23, within, keep-1, keep-2, keep-3, keep-12, keep-13, keep-23, keep_all}
use Rattle.simplex.proofs.solvers.solve_simplex3.Goals as goal
use Rattle.simplex.proofs.solvers.solve_simplex3.Goals.{After-perp_dot-3}

-- the nine numbers
told : (c : After-perp_dot-3)
    → let s = c.args.simplex in
    Told binary32 (slot s 0).w (slot s 1).w (slot s 2).w
    c.dot-d12_1.result
    (neg c.dot-d12_2.result)
    c.dot-d13_1.result
    (neg c.dot-d13_2.result)
    c.dot-d23_1.result (neg c.dot-d23_2.result)
    (mul binary32 c.perp_dot-n123.result c.perp_dot.result)
    (mul binary32 c.perp_dot-n123.result c.perp_dot-2.result)
    (mul binary32 c.perp_dot-n123.result c.perp_dot-3.result)
told c =
    record {
      near12 = simp (
        c.dot-d12_1.ensures,
        c.sub-e12.ensures,
      );
      far12 = simp (
        c.dot-d12_2.ensures,
        c.sub-e12.ensures,
      );
      near13 = simp (
        c.dot-d13_1.ensures,
        c.sub-e13.ensures,
      );
      far13 = simp (
        c.dot-d13_2.ensures,
        c.sub-e13.ensures,
      );
      near23 = simp (c.dot-d23_1.ensures, c.sub-e23.ensures);
      far23 = simp (c.dot-d23_2.ensures, c.sub-e23.ensures);
      opposite1 = simp (
        c.perp_dot-n123.ensures,
        c.perp_dot.ensures,
        c.sub-e12.ensures,
        c.sub-e13.ensures,
      );
      opposite2 = simp (
        c.perp_dot-n123.ensures,
        c.perp_dot-2.ensures,
        c.sub-e12.ensures,
        c.sub-e13.ensures,
      );
      opposite3 = simp (
        c.perp_dot-n123.ensures,
        c.perp_dot-3.ensures,
        c.sub-e12.ensures,
        c.sub-e13.ensures,
      );
    }

pub returns-then-d12_2-d13_2 : goal.returns-then-d12_2-d13_2
unfolding solve_simplex3
returns-then-d12_2-d13_2 c = let n = c.before.before.before in
    let t = told n in
    keep-1 binary32 _ _ (at_1 binary32 t c.if-d12_2-d13_2.true) _ c.neg-direction.ensures

pub returns-then-d12_1-d12_2 : goal.returns-then-d12_1-d12_2
unfolding solve_simplex3
returns-then-d12_1-d12_2 c = let n = c.before.before.before.before.before in
    let t = told n in
    keep-12 binary32 _ _ (on-12 binary32 t c.if-d12_2-d13_2.false c.if-d12_1-d12_2.true) _ _ t.near12
    t.far12 _ c.off_edge-direction.ensures

pub returns-then-d13_1-d13_2 : goal.returns-then-d13_1-d13_2
unfolding solve_simplex3
returns-then-d13_1-d13_2 c = let n = c.before.before.before.before.before.before.before in
    let t = told n in
    keep-13 binary32 _ _ (on-13 binary32 t c.if-d12_2-d13_2.false
    c.if-d12_1-d12_2.false c.if-d13_1-d13_2.true) _ _ t.near13 t.far13 _
    c.off_edge-direction-then-d13_1-d13_2.ensures

pub returns-then-d12_1-d23_2 : goal.returns-then-d12_1-d23_2
unfolding solve_simplex3
returns-then-d12_1-d23_2 c = let n = c.before.before.before.before.before.before.before in
    let t = told n in
    keep-2 binary32 _ _ (at-2 binary32 t c.if-d12_2-d13_2.false c.if-d12_1-d12_2.false
    c.if-d13_1-d13_2.false c.if-d12_1-d23_2.true) _ c.neg-direction-then-d12_1-d23_2.ensures

pub returns-then-d13_1-d23_1 : goal.returns-then-d13_1-d23_1
unfolding solve_simplex3
returns-then-d13_1-d23_1 c = let n = c.before.before.before.before.before.before.before.before in
    let t = told n in
    keep-3 binary32 _ _ (at-3 binary32 t c.if-d12_2-d13_2.false
    c.if-d12_1-d12_2.false c.if-d13_1-d13_2.false
    c.if-d12_1-d23_2.false c.if-d13_1-d23_1.true) _ c.neg-direction-then-d13_1-d23_1.ensures

pub returns-then-d23_1-d23_2 : goal.returns-then-d23_1-d23_2
unfolding solve_simplex3
returns-then-d23_1-d23_2 c = let n = c.before.before.before.before.before.before.before.before.before.before in
    let t = told n in
    keep-23 binary32 _ _ (on-23 binary32 t c.if-d12_2-d13_2.false
    c.if-d12_1-d12_2.false c.if-d13_1-d13_2.false
    c.if-d12_1-d23_2.false c.if-d13_1-d23_1.false
    c.if-d23_1-d23_2.true) _ _ t.near23 t.far23 _ c.off_edge-direction-then-d23_1-d23_2.ensures

pub returns : goal.returns
unfolding solve_simplex3
returns c = let n = c.before.before.before.before.before.before.before.before.before in
    let t = told n in
    keep_all binary32 _ _
    (within binary32 t c.if-d12_2-d13_2.false
    c.if-d12_1-d12_2.false c.if-d13_1-d13_2.false
    c.if-d12_1-d23_2.false c.if-d13_1-d23_1.false c.if-d23_1-d23_2.false) _ _ _
    t.opposite1 t.opposite2 t.opposite3
