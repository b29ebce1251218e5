-- `proxy_distance::rounds` meets its contract. The invariant: the rounds that are left give what all 20 give. Assumes nothing.
use native.Mathlib.Omega.{arith}
use mathlib.Core.Path.{refl, ◌∙◌}
use lib.Ieee.{binary32}
use Rattle.model.proofs.DistanceCall.{start-count-most}
use Rattle.distance.proofs.Laws.{Made, one-or-two, begun, limit, touching, settled, another}
use Rattle.distance.proofs.proxy_distance.rounds.Goals as goal

pub loop-iterations-init : goal.loop-iterations-init
loop-iterations-init c = let cache = c.args.cache in
    (rw c.start-begin.ensures.count_value (start-count-most cache _ _), refl)

pub returns-then-kept-dot : goal.returns-then-kept-dot
returns-then-kept-dot c = let l = c.loop-iterations in
    touching binary32 _ _ _ _ _ _ _ _ c.loop-iterations-test.true
    c.solve-solved.ensures (rw c.dot.ensures at c.if-kept-dot.true) _
    c.zero-direction-then-kept-dot.ensures ∙ l.invariant.1 ∙ begun binary32 _ _ _ c.args.cache _ _ _ c.start-begin.ensures.simplex_value c.start-begin.ensures.count_value c.zero-direction.ensures

pub held-again-requires : goal.held-again-requires
held-again-requires c = c.loop-iterations.invariant.0

pub grown-simplex-requires : goal.grown-simplex-requires
grown-simplex-requires c = one-or-two binary32 _ _ _ _ c.solve-solved.ensures c.if-kept-dot.false

pub returns-then-again : goal.returns-then-again
returns-then-again c =
    let l = c.loop-iterations in
    let m : Made binary32 c.args.points_a.now c.args.points_b.now c.args.pos12 l.simplex l.count l.iterations c.solve-solved.result
    c.support_index-index_a.result c.support_index-index_b.result c.held-again.result =
    record {
      left = c.loop-iterations-test.true;
      solves = c.solve-solved.ensures;
      apart = rw c.dot.ensures at c.if-kept-dot.false;
      first = c.support_index-index_a.ensures;
      second = rw (c.inv_rotate_vec.ensures, c.neg.ensures) at c.support_index-index_b.ensures;
      known = c.held-again.ensures;
    } in
    settled binary32 _ _ _ _ _ _ _ m _ c.grown-simplex.ensures c.if-again.true ∙ c.loop-iterations.invariant.1
    ∙ begun binary32 _ _ _ c.args.cache _ _ _ c.start-begin.ensures.simplex_value c.start-begin.ensures.count_value c.zero-direction.ensures

pub grown-simplex-requires-in-loop-iterations : goal.grown-simplex-requires-in-loop-iterations
grown-simplex-requires-in-loop-iterations c = one-or-two binary32 _ _ _ _ c.solve-solved.ensures c.if-kept-dot.false

pub overflow_add-count : goal.overflow_add-count
overflow_add-count c = let h = one-or-two binary32 _ _ _ _ c.solve-solved.ensures c.if-kept-dot.false in omega (arith, h)

pub loop-iterations-preserved : goal.loop-iterations-preserved
loop-iterations-preserved c =
    let l = c.loop-iterations in
    let m : Made binary32 c.args.points_a.now c.args.points_b.now c.args.pos12 l.simplex l.count l.iterations c.solve-solved.result
    c.support_index-index_a.result c.support_index-index_b.result c.held-again.result =
    record {
      left = c.loop-iterations-test.true;
      solves = c.solve-solved.ensures;
      apart = rw c.dot.ensures at c.if-kept-dot.false;
      first = c.support_index-index_a.ensures;
      second = rw (c.inv_rotate_vec.ensures, c.neg.ensures) at c.support_index-index_b.ensures;
      known = c.held-again.ensures;
    } in
    let h = one-or-two binary32 _ _ _ _ c.solve-solved.ensures c.if-kept-dot.false in (
      omega (arith, h),
      another binary32 _ _ _ _ _ _ _ m _ c.grown-simplex-in-loop-iterations.ensures c.if-again.false ∙ c.loop-iterations.invariant.1,
    )

pub returns : goal.returns
returns c = let l = c.loop-iterations in
    limit binary32 _ _ _ _ _ _ _ (omega arith) c.loop-iterations-test.false ∙ l.invariant.1 ∙ begun binary32 _ _ _ c.args.cache _ _ _ c.start-begin.ensures.simplex_value c.start-begin.ensures.count_value c.zero-direction.ensures
