-- `foldflake::tell_moment::tell_pose` meets its contract, case by case. Assumes nothing.
use borrow.Author.Rules.{rules}
use Rattle.foldflake.proofs.tell_moment.tell_pose.Goals as goal

pub returns-in-Ok : goal.returns-in-Ok
returns-in-Ok c = simp c.in-Ok.is c.put_pose.ensures
