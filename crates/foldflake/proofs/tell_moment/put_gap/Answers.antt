-- `foldflake::tell_moment::put_gap` meets its contract: its one place is stored to. Assumes nothing.
use mathlib.Core.List.{List, [], ◌∷◌}
use mathlib.Core.Path.{refl}
use lib.Ieee.{Float}
use Rattle.list_calls.proofs.Filled.{stored, filled}
use borrow.Author.Rules.{rules}
use Rattle.foldflake.proofs.tell_moment.put_gap.Goals as goal

pub returns : goal.returns
unfolding stored
returns c = let told : List Float = c.args.apart ∷ [] in (refl, filled c.args.out.now told c.requires)
