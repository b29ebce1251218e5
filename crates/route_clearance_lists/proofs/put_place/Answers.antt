-- `route_clearance_lists::put_place` meets its contract: every place is stored to. Assumes nothing.
use mathlib.Core.Path.{refl}
use mathlib.Core.List.{[], ◌∷◌}
use Rattle.list_calls.proofs.Filled.{stored, filled}
use borrow.Author.Rules.{rules}
use Rattle.route_clearance_lists.proofs.put_place.Goals as goal

pub returns : goal.returns
unfolding stored
returns c = let a = c.before in
    (refl, filled a.args.place.now (a.args.end.leg ∷ a.args.end.outline ∷ a.args.end.pieces ∷ []) a.requires.0)
