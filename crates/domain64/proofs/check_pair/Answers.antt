-- Written by tests/written/wide.py from domain, in f64.
-- `check_pair` meets its contract, by its tests and what its callees ensure. Assumes nothing.
use mathlib.Core.Path.{sym, ◌∙◌}
use Rattle.model.specs.Domain.{checked}
use Rattle.domain64.proofs.check_pair.Goals as goal

pub returns-then-bad_outline : goal.returns-then-bad_outline
unfolding checked
returns-then-bad_outline c = simp (sym c.bad_outline.ensures ∙ c.if-bad_outline.true)

pub returns-then-bad_outline-2 : goal.returns-then-bad_outline-2
unfolding checked
returns-then-bad_outline-2 c = let t = c.before.before in
    simp (sym t.bad_outline.ensures ∙ t.if-bad_outline.false, sym c.bad_outline-2.ensures ∙ c.if-bad_outline-2.true)

pub returns-then-parts : goal.returns-then-parts
unfolding checked
returns-then-parts c = let t = c.before.before.before.before.before in
    let u = t.before.before in
    simp (
      sym u.bad_outline.ensures ∙ u.if-bad_outline.false,
      sym t.bad_outline-2.ensures ∙ t.if-bad_outline-2.false,
      rw (c.bad_parts.ensures, c.bad_parts-2.ensures) at c.if-parts.true,
    )

pub returns-then-radii : goal.returns-then-radii
unfolding checked
returns-then-radii c = let n = c.before in
    let t = n.before.before.before.before.before in
    let u = t.before.before in
    simp (
      sym u.bad_outline.ensures ∙ u.if-bad_outline.false,
      sym t.bad_outline-2.ensures ∙ t.if-bad_outline-2.false,
      rw (n.bad_parts.ensures, n.bad_parts-2.ensures) at n.if-parts.false,
      rw (n.bad_radius.ensures, n.bad_radius-2.ensures) at c.if-radii.true,
    )

pub returns : goal.returns
unfolding checked
returns c = let n = c.before in
    let t = n.before.before.before.before.before in
    let u = t.before.before in
    simp (
      sym u.bad_outline.ensures ∙ u.if-bad_outline.false,
      sym t.bad_outline-2.ensures ∙ t.if-bad_outline-2.false,
      rw (n.bad_parts.ensures, n.bad_parts-2.ensures) at n.if-parts.false,
      rw (n.bad_radius.ensures, n.bad_radius-2.ensures) at c.if-radii.false,
    )
