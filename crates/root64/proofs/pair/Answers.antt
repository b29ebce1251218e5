-- `pair` meets its contract. Assumes nothing.
use Rattle.root64.proofs.Pairs.{pair-in, pair-out}
use Rattle.root64.proofs.pair.Goals as goal

pub returns-then-z-k : goal.returns-then-z-k
returns-then-z-k c = let a = c.args in
    pair-in a.m a.z a.k c.if-z-k.true

pub returns-else-z-k : goal.returns-else-z-k
returns-else-z-k c = let a = c.args in
    pair-out a.m a.z a.k c.if-z-k.false
