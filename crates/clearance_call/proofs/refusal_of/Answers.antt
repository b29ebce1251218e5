-- The numbers as the sweep reads them. Assumes nothing.
use mathlib.Core.Path.{refl, ◌∙◌}
use Rattle.clearance_call.specs.Call.{refusal_of}
use borrow.Author.Rules.{rules}
use Rattle.clearance_call.proofs.refusal_of.Goals as goal

pub returns : goal.returns
unfolding refusal_of
returns c = let b = c.before in
    c.refusal_by.ensures
    ∙ rw (b.point-radii.ensures, b.point-limits.ensures, b.move_at-move_a.ensures, b.move_at-move_b.ensures) refl
