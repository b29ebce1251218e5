-- `foldflake::tell_route::put_place` meets its contract: every place is stored to. Assumes nothing.
use mathlib.Core.Path.{refl}
use mathlib.Core.List.{[], ◌∷◌}
use Rattle.list_calls.proofs.Filled.{stored, filled}
use borrow.Author.Rules.{rules}
use Rattle.foldflake.proofs.tell_route.put_place.Goals as goal

pub returns : goal.returns
unfolding stored
returns c = (refl, filled c.args.place.now (c.args.leg ∷ c.args.outline ∷ c.args.calls ∷ []) c.requires)
