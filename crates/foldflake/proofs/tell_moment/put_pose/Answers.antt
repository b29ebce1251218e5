-- `foldflake::tell_moment::put_pose` meets its contract: every place is stored to. Assumes nothing.
use mathlib.Core.Path.{refl}
use Rattle.foldflake.specs.Moment.{pose_floats}
use Rattle.list_calls.proofs.Filled.{stored, filled}
use borrow.Author.Rules.{rules}
use Rattle.foldflake.proofs.tell_moment.put_pose.Goals as goal

pub returns : goal.returns
unfolding stored
returns c = (refl, filled c.args.out.now (pose_floats c.args.pose) c.requires)
