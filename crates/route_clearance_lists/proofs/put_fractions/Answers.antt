-- Every place is stored to. Assumes nothing.
use mathlib.Core.List.{[], ◌∷◌}
use Rattle.list_calls.proofs.Filled.{stored, filled}
use borrow.Author.Rules.{rules}
use Rattle.route_clearance_lists.proofs.put_fractions.Goals as goal

pub returns : goal.returns
unfolding stored
returns c = filled c.args.out.now (c.args.first ∷ c.args.last ∷ []) c.requires
