-- The lists are as long as the outlines, up to 64. Assumes nothing.
use mathlib.Core.Path.{sym, subst, ◌∙◌}
use native.Mathlib.Omega.{arith}
use lib.Dec.{T}
use Rattle.clearance_call.proofs.InDomain.{short, alike, outlines, ordinary, ranged}
use lib.Seq.{length-take-le}
use borrow.Author.Rules.{rules}
use Rattle.clearance_call.proofs.look.Goals as goal

pub returns : goal.returns
returns c =
    let f = c.args in
    let a = f.points_a.now in
    let b = f.points_b.now in
    let ns = f.numbers.now in
    let fits = subst T (sym c.well_formed.1.1.1.0.1) tt in
    let fa = c.type_inv.points_a in
    let fb = c.type_inv.points_b in
    let fn = c.type_inv.numbers in (
      c.settle_lists.ensures.0,
      λ passed count. c.settle_lists.ensures.1 (record {
        count = count;
        count_a = length-take-le _ _ (search rules) ∙ omega (arith, c.min-na.ensures, short a (outlines a b ns f.from passed).0);
        alike_a = alike c.min-na.result _ _ (search rules) (search rules);
        count_b = length-take-le _ _ (search rules) ∙ omega (arith, c.min-nb.ensures, short b (outlines a b ns f.from passed).1);
        alike_b = alike c.min-nb.result _ _ (search rules) (search rules);
        ordinary = ordinary a b ns f.from passed fa fb fn fits;
      }) (ranged a b ns f.from passed fa fb fn fits),
    )
