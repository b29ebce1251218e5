-- `entry` answers the list's entry: the code's table is that list. Assumes nothing.
use borrow.Author.Rules.{rules}
use Rattle.root_list.specs.Guesses.{guesses}
use Rattle.root_list.proofs.Rule.{past_end}
use Rattle.root_list.proofs.entry.Goals as goal

pub returns-else-k-lt1024 : goal.returns-else-k-lt1024
returns-else-k-lt1024 c = past_end guesses _ c.if-k-lt1024.false
