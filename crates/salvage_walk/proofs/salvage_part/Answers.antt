-- `salvage_walk::salvage_part` meets its contract: more bytes than the buffer has are all that it has. Assumes nothing.
use mathlib.Core.Path.{sym, ◌∙◌}
use native.Mathlib.Omega.{arith}
use lib.Seq.{take_all, take-length}
use Rattle.salvage_walk.proofs.salvage_part.Goals as goal

pub returns : goal.returns
returns c = let buffer = c.args.buffer.now in
    rw (take_all c.args.count buffer (omega (arith, c.if-count-all.false)) ∙ sym (take-length buffer)) c.walk_part-2.ensures
