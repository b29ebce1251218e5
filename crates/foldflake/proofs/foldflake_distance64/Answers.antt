-- `foldflake::foldflake_distance64` meets its contract: what the f64 call tells is what `model` says. Assumes nothing.
use lib.Ieee.{binary64}
use Rattle.bridge_own.proofs.Entry.{distance-told-same}
use borrow.Author.Rules.{rules}
use Rattle.foldflake.proofs.foldflake_distance64.Goals as goal

pub returns : goal.returns
returns c = (distance-told-same binary64 _ _ _ _ _ _ _ _ _ _).0 c.distance_call.ensures
