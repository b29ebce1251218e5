-- `near` meets its contract. Assumes nothing.
use Rattle.std.proofs.Common.{◌*◌}
use Rattle.root64.proofs.Pairs.{left_up, left_down}
use Rattle.root64.proofs.near.Goals as goal

pub returns-then-c : goal.returns-then-c
returns-then-c c = let d = c.digits-c in
    left_up (c.args.m * 4503599627370496) d.result.q d.result.rem d.ensures.0 d.ensures.1 c.if-c.true

pub returns-else-c : goal.returns-else-c
returns-else-c c = let d = c.digits-c in
    left_down (c.args.m * 4503599627370496) d.result.q d.result.rem d.ensures.0 d.ensures.1 c.if-c.false
